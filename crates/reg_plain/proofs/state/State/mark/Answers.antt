use Rattle.std.proofs.Common.{Some, refl, ap, ◌∙◌}
use Rattle.std.proofs.lemmas.Result.{on_ok_weaker}
use Rattle.reg_journal.specs.Changes.{kept_size}
use Rattle.reg_plain.specs.declared.state.Known.{Known}
use Rattle.reg_plain.proofs.KnownLaws.{mark_moved}
use Rattle.reg_plain.proofs.KnownLaws.{kept}
use Rattle.reg_plain.proofs.state.State.mark.Goals as goal

pub returns-clause-changed : goal.returns-clause-changed
returns-clause-changed c =
    let a = c.args in
    let known = c.known-known.result in
    on_ok_weaker c.learn.result
    (λ at. mark_moved a.self.now c.learn.new.digests a.digest (record { touched = Some a.now; size = c.or-size.result; condemned = known.condemned }) at a.now refl
    (c.or-size.ensures ∙ kept known.size ∙ ap (λ (k : Known). kept_size k.size) c.known-known.ensures)
    (ap (λ (k : Known). k.condemned) c.known-known.ensures))
    c.learn.ensures.learnt
