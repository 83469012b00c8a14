-- What a journal leaves. All rows of the tables can be told from it. A name is the list of its bytes, as a tag is; a
-- digest is its algorithm's byte and its raw bytes.
use Rattle.std.specs.Prelude.{ℕ, ◌+◌, Bool, List, [], length, Option, None, IsSome, option_map}
use Rattle.std.specs.List.{list_any}
use Rattle.reg_entries.specs.Documents.{KeptManifest}
use Rattle.reg_entries.specs.State.{State}
use Rattle.reg_journal.specs.declared.entry.Entry.{Entry}
use Rattle.reg_journal.specs.declared.past.KeptLink.{KeptLink}
use Rattle.reg_journal.specs.declared.past.Condemned.{Condemned}
use Rattle.reg_journal.specs.Kinds.{is_opening}

pub record Past : Type 0 where
  -- the entries, in their order
  pub entries : List Entry
  -- by the name of a repository, and a digest or a tag
  pub manifests : List ℕ → List ℕ → Option KeptManifest
  pub links : List ℕ → List ℕ → Option KeptLink
  pub tags : List ℕ → List ℕ → Option (List ℕ)
  -- the digests whose blobs are being removed
  pub condemned : List ℕ → Option Condemned
  -- when an entry last touched a manifest that stands, and a blob
  pub manifest_touched : List ℕ → List ℕ → Option ℕ
  pub blob_touched : List ℕ → Option ℕ
  -- the digests that are rowed, each with its blob's size where one is known
  pub sizes : List ℕ → Option (Option ℕ)

-- before all entries
abbrev pub nothing : Past
nothing = record {
  entries = [];
  manifests = λ name digest. None;
  links = λ name digest. None;
  tags = λ name tag. None;
  condemned = λ digest. None;
  manifest_touched = λ name digest. None;
  blob_touched = λ digest. None;
  sizes = λ digest. None;
}

-- what the repositories have: moments and blobs are forgotten
abbrev pub shown : Past → State
shown past = record {
  manifests = past.manifests;
  links = λ name digest. option_map (λ l. l.size) (past.links name digest);
  tags = past.tags;
}

-- the number of the entry that comes next: they are numbered from 1
abbrev pub next_number : Past → ℕ
next_number past = length past.entries + 1

-- whether the tables are opened
abbrev pub is_opened : Past → Bool
is_opened past = list_any (λ e. is_opening e.what) past.entries

-- a digest has a row
abbrev pub IsRowed : Past → List ℕ → Type 0
IsRowed past digest = IsSome (past.sizes digest)
