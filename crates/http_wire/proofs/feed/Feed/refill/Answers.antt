use Rattle.std.proofs.Common.{◌≡◌, ◌∙◌, ◌-◌, ◌+◌, ◌++◌, ap, sym, subst, List, ℕ, take, drop, slice_range, arith}
use Rattle.std.specs.Io.KnownBytes.{Keeps, prepend_known}
use Rattle.std.specs.Vec.{with_items}
use Rattle.std.proofs.lemmas.List.{with_items_is}
use Rattle.http_wire.specs.Flow.{Flow}
use Rattle.http_wire.proofs.StreamLaws.{filled, refilled}
use Rattle.http_wire.proofs.feed.Feed.refill.Goals as goal

pub returns-in-Ok-clause-bytes : goal.returns-in-Ok-clause-bytes
returns-in-Ok-clause-bytes g c =
    let f = c.self.inside in
    let p = c.args.self.now.pending in
    let w = f.end - f.start in
    let n = c.in-Ok.count in
    let b = c.fill-outcome.new.buffer in
    let moved = c.in-Ok.ensures.moved ∙ ap (λ (l : List ℕ). slice_range l f.start f.end) c.deref_mut.ensures.value ∙ ap (λ (v : Flow). v.pending) c.self.view_is in
    let items = with_items_is f.buffer b (omega (arith, c.fill-outcome.auto.buffer, c.deref_mut.ensures.len)) in
    let now : slice_range (with_items f.buffer b).items 0 (w + n) ≡ p ++ take n (drop w b) = ap (λ (l : List ℕ). slice_range l 0 (w + n)) items ∙ filled b p w n moved in
    subst (λ (q : List ℕ). Keeps (prepend_known p (g.S.Source.left c.args.source.now)) (prepend_known q (g.S.Source.left c.fill-outcome.new.source)))
    (sym now) (refilled p (take n (drop w b)) _ _ c.in-Ok.ensures.bytes.0)
