use Rattle.std.proofs.Common.{◌∙◌, ◌+◌, ap, List, ℕ, drop, slice_range, arith}
use Rattle.http_wire.specs.Flow.{Flow}
use Rattle.http_wire.proofs.StreamLaws.{copied}
use Rattle.http_wire.proofs.feed.Feed.copy_to.Goals as goal

pub returns-clause-bytes : goal.returns-clause-bytes
returns-clause-bytes c =
    let f = c.self.inside in
    let n = c.min-count.result in
    copied f.buffer.items c.args.self.now.pending c.copy_from_slice.new.self (drop n c.args.into.now) f.start f.end n c.self.invariant.0
    (omega (arith, c.self.invariant.1, c.self.invariant.2)) (omega (arith, c.min-count.ensures)) (ap (λ (v : Flow). v.pending) c.self.view_is)
    (c.copy_from_slice.ensures.after ∙ ap (λ (l : List ℕ). slice_range l f.start (f.start + n)) c.deref.ensures.value)
