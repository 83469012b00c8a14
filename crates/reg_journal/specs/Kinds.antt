-- What can be told of an entry by its kind: when it may stand, and which repository, digest and tag it names.
use Rattle.std.specs.Prelude.{ℕ, Bool, true, false, List, Option, Some, None}
use Rattle.reg_journal.specs.declared.entry.What.{What}
use Rattle.reg_journal.specs.declared.entry.What.TheVariants.{Put, SetTag, DropTag, DropManifest, Mark, Link, Unlink, Brought, BroughtLink, BroughtTag, RemovedManifest, RemovedLink, Opened, BroughtBlob, Collect, DropLink, Doom, Erase}

-- whether it opens the tables
abbrev pub is_opening : What → Bool
is_opening Opened = true
is_opening what = false

-- whether it stands before the tables are opened, or opens them; all others stand behind that
abbrev pub is_early : What → Bool
is_early (Brought name digest doc) = true
is_early (BroughtLink name digest size) = true
is_early (BroughtTag name tag digest) = true
is_early (RemovedManifest name digest) = true
is_early (RemovedLink name digest) = true
is_early Opened = true
is_early what = false

-- the repository that it names
abbrev pub repository_of : What → Option (List ℕ)
repository_of (Put name digest doc) = Some name
repository_of (SetTag name tag digest) = Some name
repository_of (DropTag name tag) = Some name
repository_of (DropManifest name digest) = Some name
repository_of (Link name digest size) = Some name
repository_of (Unlink name digest) = Some name
repository_of (Brought name digest doc) = Some name
repository_of (BroughtLink name digest size) = Some name
repository_of (BroughtTag name tag digest) = Some name
repository_of (RemovedManifest name digest) = Some name
repository_of (RemovedLink name digest) = Some name
repository_of (Collect name digest) = Some name
repository_of (DropLink name digest) = Some name
repository_of what = None

-- the digest that it names
abbrev pub digest_of : What → Option (List ℕ)
digest_of (Put name digest doc) = Some digest
digest_of (SetTag name tag digest) = Some digest
digest_of (DropTag name tag) = None
digest_of (DropManifest name digest) = Some digest
digest_of (Mark digest) = Some digest
digest_of (Link name digest size) = Some digest
digest_of (Unlink name digest) = Some digest
digest_of (Brought name digest doc) = Some digest
digest_of (BroughtLink name digest size) = Some digest
digest_of (BroughtTag name tag digest) = Some digest
digest_of (RemovedManifest name digest) = Some digest
digest_of (RemovedLink name digest) = Some digest
digest_of Opened = None
digest_of (BroughtBlob digest size) = Some digest
digest_of (Collect name digest) = Some digest
digest_of (DropLink name digest) = Some digest
digest_of (Doom digest) = Some digest
digest_of (Erase digest) = Some digest

-- the tag that it names
abbrev pub tag_of : What → Option (List ℕ)
tag_of (SetTag name tag digest) = Some tag
tag_of (DropTag name tag) = Some tag
tag_of (BroughtTag name tag digest) = Some tag
tag_of what = None
