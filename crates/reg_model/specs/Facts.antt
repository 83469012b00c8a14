-- What a registry is looked at to answer an ask: it is all that an answer depends on.
use Rattle.std.specs.Prelude.{ℕ, Bool, List, Option}
use Rattle.reg_entries.specs.State.{State}

-- who answers: the link files, these while nothing may change, or the tables
pub data Phase : Type 0 where
  by_files : Phase
  frozen : Phase
  by_tables : Phase

-- Names, ids and digests are the lists of their bytes.
pub record Facts : Type 0 where
  pub phase : Phase
  -- what the repositories have
  pub state : State
  -- the number of the journal's entry by which the blob of a digest is being removed
  pub condemned : List ℕ → Option ℕ
  -- where the upload of a repository with an id ends, and whether another request has it
  pub uploads : List ℕ → List ℕ → Option ℕ
  pub busy : List ℕ → List ℕ → Bool
  -- the bytes of the manifest that a repository has under a digest, and those of a digest's blob
  pub manifests : List ℕ → List ℕ → Option (List ℕ)
  pub blobs : List ℕ → Option (List ℕ)
