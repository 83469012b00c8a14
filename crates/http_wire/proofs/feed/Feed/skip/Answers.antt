use Rattle.std.proofs.Common.{◌∙◌, ◌≤◌, ap, sym, subst, List, ℕ, length, drop}
use Rattle.http_wire.specs.Flow.{Flow}
use Rattle.http_wire.proofs.StreamLaws.{skipped, pending_fits}
use Rattle.http_wire.proofs.feed.Feed.skip.Goals as goal

pub returns-clause-pending : goal.returns-clause-pending
returns-clause-pending c =
    let f = c.self.inside in
    let n = c.args.count in
    let is = ap (λ (v : Flow). v.pending) c.self.view_is in
    let few = subst (λ (p : List ℕ). n ≤ length p) (sym is) c.requires in
    skipped f.buffer.items f.start n f.end (pending_fits f.buffer.items f.start f.end n c.self.invariant.0 few) ∙ ap (drop n) is
