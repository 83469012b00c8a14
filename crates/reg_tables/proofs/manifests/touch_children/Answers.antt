use Rattle.std.proofs.Common.{◌∙◌, ◌∷◌, [], ap, sym, subst, rules, take, take_all, arith, List, ℕ}
use Rattle.std.specs.Prelude.{IsTrue}
use Rattle.keeper_api.specs.Rows.{Kept}
use Rattle.reg_names.specs.Digests.{IsDigest}
use Rattle.reg_journal.specs.Past.{Past}
use Rattle.reg_tables.specs.Derived.{with_past}
use Rattle.reg_tables.specs.InnerPending.{Works}
use Rattle.reg_tables.specs.InnerSteps.{touched_manifests}
use Rattle.reg_tables.proofs.RemovedLaws.{all_at, manifests_next, manifests_none}
use Rattle.reg_tables.proofs.manifests.touch_children.Goals as goal

pub loop-child-init : goal.loop-child-init
loop-child-init g c = record {
  reads = search rules;
  step = λ tells past base h. h ∙ ap (λ (p : Past). with_past p base) (sym (manifests_none c.args.name.now c.args.now past));
}

pub digest_of-child-requires : goal.digest_of-child-requires
digest_of-child-requires g c =
    subst IsDigest (sym c.as_slice.ensures) (all_at IsDigest c.args.children.now c.loop-child.child-index c.child-item.result c.requires c.loop-child-test.true c.child-item.is)

pub loop-child-preserved : goal.loop-child-preserved
loop-child-preserved g c =
    let a = c.args in
    let one = c.digest_of-child.result in
    let step = subst (λ (k : Kept). IsTrue k.tells → Works k.rows c.loop-child.pending c.touch_manifest.new.pending (touched_manifests a.name.now (one ∷ []) a.now) (λ r. r)) c.loop-child.invariant.reads.held_stays c.in_ok-touch_manifest.ensures.step in
    record {
      reads = search rules;
      step = λ tells past base h.
          step tells (touched_manifests a.name.now (take c.loop-child.child-index a.children.now) a.now past) base (c.loop-child.invariant.step tells past base h)
          ∙ ap (λ (d : List ℕ). with_past (touched_manifests a.name.now (d ∷ []) a.now (touched_manifests a.name.now (take c.loop-child.child-index a.children.now) a.now past)) base) (c.digest_of-child.ensures ∙ c.as_slice.ensures)
          ∙ ap (λ (p : Past). with_past p base) (manifests_next a.name.now c.child-item.result a.children.now c.loop-child.child-index a.now past c.loop-child-test.true c.child-item.is);
    }

pub returns-clause-step : goal.returns-clause-step
returns-clause-step g c tells past base h =
    c.loop-child.invariant.step tells past base h
    ∙ ap (λ (ds : List (List ℕ)). with_past (touched_manifests c.args.name.now ds c.args.now past) base) (take_all c.loop-child.child-index c.args.children.now (omega (arith, c.loop-child-test.false)))
