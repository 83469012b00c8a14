-- What is kept of a manifest.
use Rattle.std.specs.Prelude.{ℕ, ◌≤◌, List, length}
use Rattle.reg_names.specs.declared.kind.Kind.{Kind}
use Rattle.reg_names.specs.declared.named.Named.{Named}
use Rattle.reg_names.specs.Named.{AscendStrictly, digests_of}

-- its kind, how many bytes it has, the digests that it names, and those of the manifests that it lists
pub record KeptManifest : Type 0 where
  pub kind : Kind
  pub size : ℕ
  pub named : List Named
  pub children : List (List ℕ)

-- what is kept of a manifest of this kind and size, which names and lists these
abbrev pub kept_of : Kind → ℕ → List Named → List (List ℕ) → KeptManifest
kept_of kind size named children = record { kind = kind; size = size; named = named; children = children }

-- the most digests of a list: the largest count that two bytes spell
abbrev pub list_limit : ℕ
list_limit = 65535

-- the digests are in order, none of them is there twice, and they are no more than a list may have
pub record IsDigestList (digests : List (List ℕ)) : Type 0 where
  pub ascending : AscendStrictly digests
  pub few : length digests ≤ list_limit

-- both lists are such
pub record IsKept (manifest : KeptManifest) : Type 0 where
  pub named : IsDigestList (digests_of manifest.named)
  pub children : IsDigestList manifest.children
