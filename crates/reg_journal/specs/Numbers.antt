-- The numbers of the kinds of entries.
use Rattle.std.specs.Prelude.{ℕ}
use Rattle.reg_journal.specs.declared.entry.What.{What}
use Rattle.reg_journal.specs.declared.entry.What.TheVariants.{Put, SetTag, DropTag, DropManifest, Mark, Link, Unlink, Brought, BroughtLink, BroughtTag, RemovedManifest, RemovedLink, Opened, BroughtBlob, Collect, DropLink, Doom, Erase}

abbrev pub number_of : What → ℕ
number_of (Put name digest doc) = 1
number_of (SetTag name tag digest) = 2
number_of (DropTag name tag) = 3
number_of (DropManifest name digest) = 4
number_of (Mark digest) = 5
number_of (Link name digest size) = 6
number_of (Unlink name digest) = 7
number_of (Brought name digest doc) = 8
number_of (BroughtLink name digest size) = 9
number_of (BroughtTag name tag digest) = 10
number_of (RemovedManifest name digest) = 11
number_of (RemovedLink name digest) = 12
number_of Opened = 13
number_of (BroughtBlob digest size) = 14
number_of (Collect name digest) = 15
number_of (DropLink name digest) = 16
number_of (Doom digest) = 17
number_of (Erase digest) = 18
