-- The proof's own: no public clause cites what stands here.
-- How it is gathered whether a named digest is free.
use Rattle.std.specs.Prelude.{◌≡◌, ℕ, Bool, true, ◌&&◌, nat_eq, if◌then◌else◌, List, Option, Some}
use Rattle.std.specs.Option.{unwrap_or}
use Rattle.std.specs.List.{list_any}
use Rattle.std.specs.Cmp.Lexicographic.{pointwise}
use Rattle.manifest_doc.specs.Documents.{freedom, is_of}
use Rattle.manifest_doc.specs.declared.descriptors.Descriptor.{Descriptor}

-- whether each digest that was met is free
abbrev pub Freedoms : Type 0
Freedoms = List ℕ → Option Bool

-- the same, with one occurrence more
abbrev pub with_note : Freedoms → List ℕ → Bool → Freedoms
with_note f digest has_urls =
    λ q. if pointwise nat_eq q digest then Some (unwrap_or (f q) true && has_urls) else f q

-- one occurrence of a digest was noted
abbrev pub IsNoted : List ℕ → Bool → Freedoms → Freedoms → Type 0
IsNoted digest has_urls old new = (q : List ℕ) → new q ≡ with_note old digest has_urls q

-- these are the digests that a configuration and layers name, each with whether it is free
abbrev pub AreFreedoms : Option Descriptor → List Descriptor → Freedoms → Type 0
AreFreedoms config layers gathered = (digest : List ℕ) → gathered digest ≡ freedom digest config layers

-- these are the digests of descriptors
abbrev pub AreDigests : List Descriptor → (List ℕ → Bool) → Type 0
AreDigests descriptors gathered = (digest : List ℕ) → gathered digest ≡ list_any (is_of digest) descriptors
