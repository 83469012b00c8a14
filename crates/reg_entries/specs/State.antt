-- The state of a registry: what its repositories have, by their names. A name is the list of its bytes, as a tag is; a
-- digest is its algorithm's byte and its raw bytes. A state holds neither moments nor content, and no blob that no
-- repository links.
use Rattle.std.specs.Prelude.{ℕ, Bool, false, ◌⊎◌, List, Option, Some, None, IsSome, IsTrue}
use Rattle.std.specs.Option.{option_map_or}
use Rattle.std.specs.Ordering.{nat_cmp, is_lt}
use Rattle.std.specs.Cmp.Lexicographic.{slice_cmp}
use Rattle.reg_names.specs.Named.{has_digest}
use Rattle.reg_entries.specs.Documents.{KeptManifest}

-- Each field is asked by a repository's name first, and answers nothing where the repository has no such thing.
pub record State : Type 0 where
  -- what is kept of the manifest that the repository has under a digest
  pub manifests : List ℕ → List ℕ → Option KeptManifest
  -- how many bytes the blob of a digest has, which the repository links
  pub links : List ℕ → List ℕ → Option ℕ
  -- the digest that a tag of the repository points to
  pub tags : List ℕ → List ℕ → Option (List ℕ)

-- the state in which no repository has anything
abbrev pub empty : State
empty = record { manifests = λ name digest. None; links = λ name digest. None; tags = λ name tag. None }

-- a repository is known where it has a manifest or a link
abbrev pub IsKnown : State → List ℕ → Type 0
IsKnown state name =
    ((digest : List ℕ) × IsSome (state.manifests name digest)) ⊎ ((digest : List ℕ) × IsSome (state.links name digest))

-- whether a manifest, where there is one, lists the child
abbrev pub lists_child : List ℕ → Option KeptManifest → Bool
lists_child child manifest = option_map_or (λ m. has_digest child m.children) manifest false

-- the repository has a manifest under the digest `parent`, which lists the child
abbrev pub Lists : State → List ℕ → List ℕ → List ℕ → Type 0
Lists state name parent child = IsTrue (lists_child child (state.manifests name parent))

-- the least digest of a manifest of the repository that lists the child, or that none does
abbrev pub IsLeastParent : State → List ℕ → List ℕ → Option (List ℕ) → Type 0
IsLeastParent state name child (Some digest) =
    Lists state name digest child
    × ((other : List ℕ) → IsTrue (is_lt (slice_cmp nat_cmp other digest)) → ¬ Lists state name other child)
IsLeastParent state name child None = (digest : List ℕ) → ¬ Lists state name digest child
