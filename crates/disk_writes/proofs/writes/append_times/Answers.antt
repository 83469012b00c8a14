use Rattle.std.proofs.Common.{◌≡◌, ◌++◌, refl, sym, subst, ◌∙◌, append-nil, add-one, arith}
use Rattle.std.specs.Prelude.{IsTrue}
use Rattle.std.specs.List.{repeat}
use Rattle.disk_writes.proofs.WriteLaws.{grown_more}
use Rattle.disk_writes.proofs.writes.append_times.Goals as goal

pub loop-init : goal.loop-init
loop-init g c = record {
  path = refl;
  tells = refl;
  bytes = λ told. sym (append-nil (g.S.Stage.held c.args.stage.now).bytes);
  later = omega arith;
}

pub loop-preserved : goal.loop-preserved
loop-preserved g c =
    let l = c.loop.invariant in
    let more = c.in_ok-append.ensures in
    record {
      path = more.path ∙ l.path;
      tells = more.tells ∙ l.tells;
      bytes = λ told. rw add-one (grown_more (g.S.Stage.held c.args.stage.now).bytes (g.S.Stage.held c.loop.stage).bytes (g.S.Stage.held c.append.new.self).bytes c.args.piece.now c.loop.counter (l.bytes told) (more.bytes (subst IsTrue (sym l.tells) told)));
      later = omega (arith, l.later, more.cause.later);
    }

pub returns-clause-bytes : goal.returns-clause-bytes
returns-clause-bytes g c = λ told.
    let all : c.loop.counter ≡ c.args.times = omega arith in
    subst (λ n. (g.S.Stage.held c.loop.stage).bytes ≡ (g.S.Stage.held c.args.stage.now).bytes ++ repeat n c.args.piece.now) all (c.loop.invariant.bytes told)
