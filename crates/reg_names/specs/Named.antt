-- Lists of digests in order, and of digests that a manifest names.
use Rattle.std.specs.Prelude.{ℕ, Bool, nat_eq, ◌&&◌, if◌then◌else◌, List, [], ◌∷◌, map, Option, Some, None}
use Rattle.std.specs.Bool.{beq}
use Rattle.std.specs.List.{list_any}
use Rattle.std.specs.List.Sorted.{IsStrictlySortedBy}
use Rattle.std.specs.Ordering.{nat_cmp}
use Rattle.std.specs.Cmp.{IsEquivalence, and_equiv, on_equiv, bool_eq_equiv}
use Rattle.std.specs.Cmp.Lexicographic.{pointwise, slice_cmp, nat_list_eq_equiv}
use Rattle.reg_names.specs.declared.named.Named.{Named}

-- the digests ascend strictly: no one stands there twice
abbrev pub AscendStrictly : List (List ℕ) → Type 0
AscendStrictly digests = IsStrictlySortedBy (slice_cmp nat_cmp) digests

-- the digest is among them
abbrev pub has_digest : List ℕ → List (List ℕ) → Bool
has_digest digest digests = list_any (pointwise nat_eq digest) digests

-- the digests of the entries
abbrev pub digests_of : List Named → List (List ℕ)
digests_of named = map (λ n. n.digest) named

-- whether a digest that is among the entries is free there
abbrev pub free_in : List ℕ → List Named → Option Bool
free_in digest [] = None
free_in digest (n ∷ ns) = if pointwise nat_eq digest n.digest then Some n.free else free_in digest ns

-- the two have one digest, and both are free or neither is
abbrev pub is_same : Named → Named → Bool
is_same m n = pointwise nat_eq m.digest n.digest && beq m.free n.free

-- which is an equality
pub is_same_equiv : IsEquivalence is_same
is_same_equiv = and_equiv (on_equiv (λ n. n.digest) nat_list_eq_equiv) (on_equiv (λ n. n.free) bool_eq_equiv)
