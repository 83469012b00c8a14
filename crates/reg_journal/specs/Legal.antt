-- Which entries may follow a journal. A delay and moments are in seconds.
use Rattle.std.specs.Prelude.{◌≡◌, ◌≢◌, ℕ, ◌+◌, ◌≤◌, false, not, List, [], ◌∷◌, Option, Some, None, IsSome, IfSome, IsTrue, ⊤}
use Rattle.reg_names.specs.Named.{has_digest, free_in}
use Rattle.reg_entries.specs.Documents.{KeptManifest}
use Rattle.reg_entries.specs.State.{lists_child}
use Rattle.reg_journal.specs.declared.entry.Entry.{Entry}
use Rattle.reg_journal.specs.declared.entry.What.{What}
use Rattle.reg_journal.specs.declared.entry.What.TheVariants.{Put, SetTag, DropTag, DropManifest, Mark, Link, Unlink, Brought, BroughtLink, BroughtTag, RemovedManifest, RemovedLink, Opened, BroughtBlob, Collect, DropLink, Doom, Erase}
use Rattle.reg_journal.specs.declared.past.KeptLink.{KeptLink}
use Rattle.reg_journal.specs.Kinds.{is_early}
use Rattle.reg_journal.specs.Past.{Past, nothing, is_opened, IsRowed}
use Rattle.reg_journal.specs.Changes.{names_digest, apply, replay}

-- ---- conditions

-- no tag of the repository points to the digest
abbrev pub IsUntagged : Past → List ℕ → List ℕ → Type 0
IsUntagged past name digest = (tag : List ℕ) → past.tags name tag ≢ Some digest

-- no manifest of the repository lists it
abbrev pub IsUnlisted : Past → List ℕ → List ℕ → Type 0
IsUnlisted past name digest = (parent : List ℕ) → lists_child digest (past.manifests name parent) ≡ false

-- no repository links it
abbrev pub IsUnlinked : Past → List ℕ → Type 0
IsUnlinked past digest = (name : List ℕ) → past.links name digest ≡ None

-- no manifest of any repository names it, be it freely or not
abbrev pub IsUnnamed : Past → List ℕ → Type 0
IsUnnamed past digest = (name manifest : List ℕ) → names_digest digest (past.manifests name manifest) ≡ false

-- the repository links each digest that the manifest names other than freely, and has each that it lists
pub record HasContent (past : Past) (name : List ℕ) (manifest : KeptManifest) : Type 0 where
  pub named : (digest : List ℕ) → free_in digest manifest.named ≡ Some false → IsSome (past.links name digest)
  pub children : (digest : List ℕ) → IsTrue (has_digest digest manifest.children) → IsSome (past.manifests name digest)

-- the repository has the manifest, to which no tag points, and which no manifest lists
pub record IsLoose (past : Past) (name digest : List ℕ) : Type 0 where
  pub stands : IsSome (past.manifests name digest)
  pub untagged : IsUntagged past name digest
  pub unlisted : IsUnlisted past name digest

-- nothing holds the digest, which is not condemned yet
pub record IsAbandoned (past : Past) (digest : List ℕ) : Type 0 where
  pub standing : past.condemned digest ≡ None
  pub unlinked : IsUnlinked past digest
  pub unnamed : IsUnnamed past digest

-- the delay after a moment is over, where there is one
abbrev pub IsOver : ℕ → ℕ → Option ℕ → Type 0
IsOver delay now moment = IfSome moment (λ m. m + delay ≤ now)

-- a link stands, and the delay after its moment is over
abbrev pub IsLinkOver : ℕ → ℕ → Option KeptLink → Type 0
IsLinkOver delay now None = ⊥
IsLinkOver delay now (Some link) = link.moment + delay ≤ now

-- ---- entries

-- the condition of an entry of this moment, by its kind
abbrev pub Meets : ℕ → Past → ℕ → What → Type 0
Meets delay past now (Put name digest doc) = HasContent past name doc
Meets delay past now (SetTag name tag digest) = IsSome (past.manifests name digest)
Meets delay past now (DropTag name tag) = IsSome (past.tags name tag)
Meets delay past now (DropManifest name digest) = IsLoose past name digest
Meets delay past now (Mark digest) = past.condemned digest ≡ None
Meets delay past now (Link name digest size) = past.condemned digest ≡ None
Meets delay past now (Unlink name digest) = IsSome (past.links name digest)
Meets delay past now (Brought name digest doc) = ⊤
Meets delay past now (BroughtLink name digest size) = ⊤
Meets delay past now (BroughtTag name tag digest) = IsSome (past.manifests name digest)
Meets delay past now (RemovedManifest name digest) = IsSome (past.manifests name digest)
Meets delay past now (RemovedLink name digest) = IsSome (past.links name digest)
Meets delay past now Opened = ⊤
Meets delay past now (BroughtBlob digest size) = past.condemned digest ≡ None
Meets delay past now (Collect name digest) =
    IsLoose past name digest × IsOver delay now (past.manifest_touched name digest)
Meets delay past now (DropLink name digest) = IsUnnamed past digest × IsLinkOver delay now (past.links name digest)
Meets delay past now (Doom digest) = IsAbandoned past digest × IsOver delay now (past.blob_touched digest)
Meets delay past now (Erase digest) = IsSome (past.condemned digest)

-- The entry may follow. One that an import makes stands before the tables are opened, as the opening itself does; all
-- others stand behind it.
pub record IsLegal (delay : ℕ) (past : Past) (entry : Entry) : Type 0 where
  pub early : is_opened past ≡ not (is_early entry.what)
  pub meets : Meets delay past entry.moment entry.what

-- ---- journals

abbrev pub LegalFrom : ℕ → Past → List Entry → Type 0
LegalFrom delay past [] = ⊤
LegalFrom delay past (entry ∷ entries) = IsLegal delay past entry × LegalFrom delay (apply past entry) entries

-- each entry may follow those before it
abbrev pub Legal : ℕ → List Entry → Type 0
Legal delay journal = LegalFrom delay nothing journal

-- ---- what reviews may take

-- a collection: of a manifest, of a link, or of the blob of a digest that is rowed
abbrev pub IsCollection : Past → What → Type 0
IsCollection past (Collect name digest) = ⊤
IsCollection past (DropLink name digest) = ⊤
IsCollection past (Doom digest) = IsRowed past digest
IsCollection past what = ⊥

abbrev pub made_at : ℕ → What → Entry
made_at moment what = record { moment = moment; what = what }

-- a review may make it at this moment
pub record Collectable (delay : ℕ) (journal : List Entry) (now : ℕ) (what : What) : Type 0 where
  pub collects : IsCollection (replay journal) what
  pub legal : IsLegal delay (replay journal) (made_at now what)
