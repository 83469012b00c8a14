-- The proof's own: no public clause cites what stands here.
-- What the order of texts is as a partial one.
use Rattle.std.specs.Prelude.{ℕ, nat_eq, List}
use Rattle.std.specs.Ordering.{nat_cmp, as_partial_cmp, on}
use Rattle.std.specs.Cmp.{IsPartialOrder, partial_order_from_own_ties, partial_order_from_total}
use Rattle.std.specs.Cmp.Lexicographic.{pointwise, slice_cmp, nat_list_cmp_total, on_texts, texts_ties}

-- the order of lists of bytes
pub texts_partial_order : IsPartialOrder (pointwise nat_eq) (as_partial_cmp (slice_cmp nat_cmp))
texts_partial_order = partial_order_from_own_ties (partial_order_from_total nat_list_cmp_total) texts_ties

-- that of values by their texts
pub on_texts_partial_order : {K : Type 0} (f : K → List ℕ)
    → IsPartialOrder (on f (pointwise nat_eq)) (as_partial_cmp (on f (slice_cmp nat_cmp)))
on_texts_partial_order f =
    partial_order_from_own_ties (partial_order_from_total (on_texts f)) (λ x y. texts_ties (f x) (f y))
