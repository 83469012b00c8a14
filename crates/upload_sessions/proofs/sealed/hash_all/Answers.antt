use Rattle.std.proofs.Common.{◌≡◌, ◌+◌, ◌≤◌, ap, arith}
use Rattle.depot_api.specs.Stages.{Staged}
use Rattle.upload_sessions.proofs.SealingLaws.{reads_on, fed_on, digest_of_all}
use Rattle.upload_sessions.proofs.sealed.hash_all.Goals as goal

pub loop-at-preserved : goal.loop-at-preserved
loop-at-preserved g c =
    let held = g.S.Stage.held in
    let staged = held c.args.stage.now in
    let same = c.loop-at.invariant.reads.held_stays in
    let count : (held c.loop-at.stage).count ≡ staged.count = ap (λ (s : Staged). s.count) same in
    let within : c.loop-at.at + c.in_ok-given.given ≤ staged.count = omega (arith, count, c.in_ok-given.ensures.count.1, c.loop-at-test.true, c.length-length.ensures.length) in
    record {
      reads = reads_on held g.S.Stage.faults c.args.stage.now c.loop-at.stage c.read_at.new.self _ c.loop-at.invariant.reads c.read_at.ensures.reads;
      within = within;
      fed = fed_on staged (held c.loop-at.stage) c.loop-at.hashing c.feed.new.self c.loop-at.at c.in_ok-given.given c.loop-at.buffer c.read_at.new.into same c.length-length.ensures.bytes within c.loop-at.invariant.fed c.in_ok-given.ensures.filled c.feed.ensures;
    }

pub returns-clause-digest : goal.returns-clause-digest
returns-clause-digest g c =
    let staged = g.S.Stage.held c.args.stage.now in
    let all : staged.count ≤ c.loop-at.at = omega (arith, c.length-length.ensures.length, c.loop-at-test.false) in
    digest_of_all staged c.done.result c.loop-at.hashing c.loop-at.at c.length-length.ensures.bytes all c.loop-at.invariant.fed c.done.ensures.value
