use Rattle.std.proofs.Common.{None, refl, ap}
use Rattle.std.proofs.lemmas.Result.{on_ok_weaker}
use Rattle.reg_plain.specs.declared.state.Known.{Known}
use Rattle.reg_plain.proofs.KnownLaws.{erase_moved}
use Rattle.reg_plain.proofs.state.State.erase.Goals as goal

pub returns-clause-changed : goal.returns-clause-changed
returns-clause-changed c =
    let a = c.args in
    let known = c.known-known.result in
    on_ok_weaker c.learn.result
    (λ at. erase_moved a.self.now c.learn.new.digests a.digest (record { touched = known.touched; size = None; condemned = None }) at (ap (λ (k : Known). k.touched) c.known-known.ensures) refl refl)
    c.learn.ensures.learnt
