-- Entries: names, tags, digests and documents, and numbers below 2 ^ 64.
use Rattle.std.specs.Prelude.{ℕ, ◌<◌, ◌^◌, ⊤}
use Rattle.std.specs.List.{AllByRecursion}
use Rattle.reg_names.specs.Names.{IsName}
use Rattle.reg_names.specs.Tags.{IsTag}
use Rattle.reg_names.specs.Digests.{IsDigest}
use Rattle.reg_names.specs.Named.{digests_of}
use Rattle.reg_entries.specs.Documents.{KeptManifest, IsKept}
use Rattle.reg_journal.specs.declared.entry.Entry.{Entry}
use Rattle.reg_journal.specs.declared.entry.What.{What}
use Rattle.reg_journal.specs.declared.entry.What.TheVariants.{Put, SetTag, DropTag, DropManifest, Mark, Link, Unlink, Brought, BroughtLink, BroughtTag, RemovedManifest, RemovedLink, Opened, BroughtBlob, Collect, DropLink, Doom, Erase}

-- a number of 64 bits
abbrev pub IsNumber : ℕ → Type 0
IsNumber n = n < 2 ^ 64

-- what may be kept of a manifest, with digests in its lists
pub record IsDocument (doc : KeptManifest) : Type 0 where
  pub kept : IsKept doc
  pub size : IsNumber doc.size
  pub named : AllByRecursion IsDigest (digests_of doc.named)
  pub children : AllByRecursion IsDigest doc.children

-- the fields of an entry are such, by its kind
abbrev pub IsWhat : What → Type 0
IsWhat (Put name digest doc) = IsName name × IsDigest digest × IsDocument doc
IsWhat (SetTag name tag digest) = IsName name × IsTag tag × IsDigest digest
IsWhat (DropTag name tag) = IsName name × IsTag tag
IsWhat (DropManifest name digest) = IsName name × IsDigest digest
IsWhat (Mark digest) = IsDigest digest
IsWhat (Link name digest size) = IsName name × IsDigest digest × IsNumber size
IsWhat (Unlink name digest) = IsName name × IsDigest digest
IsWhat (Brought name digest doc) = IsName name × IsDigest digest × IsDocument doc
IsWhat (BroughtLink name digest size) = IsName name × IsDigest digest × IsNumber size
IsWhat (BroughtTag name tag digest) = IsName name × IsTag tag × IsDigest digest
IsWhat (RemovedManifest name digest) = IsName name × IsDigest digest
IsWhat (RemovedLink name digest) = IsName name × IsDigest digest
IsWhat Opened = ⊤
IsWhat (BroughtBlob digest size) = IsDigest digest × IsNumber size
IsWhat (Collect name digest) = IsName name × IsDigest digest
IsWhat (DropLink name digest) = IsName name × IsDigest digest
IsWhat (Doom digest) = IsDigest digest
IsWhat (Erase digest) = IsDigest digest

pub record IsEntry (entry : Entry) : Type 0 where
  pub moment : IsNumber entry.moment
  pub what : IsWhat entry.what
