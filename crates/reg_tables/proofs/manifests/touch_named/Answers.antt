use Rattle.std.proofs.Common.{◌∙◌, ◌∷◌, [], ap, sym, subst, rules, take, take_all, arith, List, ℕ}
use Rattle.std.specs.Prelude.{IsTrue}
use Rattle.keeper_api.specs.Rows.{Kept}
use Rattle.reg_names.specs.Digests.{IsDigest}
use Rattle.reg_journal.specs.Past.{Past}
use Rattle.reg_tables.specs.Derived.{with_past}
use Rattle.reg_tables.specs.InnerPending.{Works}
use Rattle.reg_tables.specs.InnerSteps.{touched_blobs}
use Rattle.reg_tables.proofs.RemovedLaws.{all_at, blobs_next}
use Rattle.reg_tables.proofs.manifests.touch_named.Goals as goal

pub digest_of-digest-requires : goal.digest_of-digest-requires
digest_of-digest-requires g c =
    subst IsDigest (sym c.as_slice.ensures) (all_at IsDigest c.args.named.now c.loop-digest.digest-index c.digest-item.result c.requires c.loop-digest-test.true c.digest-item.is)

pub loop-digest-preserved : goal.loop-digest-preserved
loop-digest-preserved g c =
    let a = c.args in
    let one = c.digest_of-digest.result in
    let step = subst (λ (k : Kept). IsTrue k.tells → Works k.rows c.loop-digest.pending c.touch_blob.new.pending (touched_blobs (one ∷ []) a.now) (λ r. r)) c.loop-digest.invariant.reads.held_stays c.in_ok-touch_blob.ensures.step in
    record {
      reads = search rules;
      step = λ tells past base h.
          step tells (touched_blobs (take c.loop-digest.digest-index a.named.now) a.now past) base (c.loop-digest.invariant.step tells past base h)
          ∙ ap (λ (d : List ℕ). with_past (touched_blobs (d ∷ []) a.now (touched_blobs (take c.loop-digest.digest-index a.named.now) a.now past)) base) (c.digest_of-digest.ensures ∙ c.as_slice.ensures)
          ∙ ap (λ (p : Past). with_past p base) (blobs_next c.digest-item.result a.named.now c.loop-digest.digest-index a.now past c.loop-digest-test.true c.digest-item.is);
    }

pub returns-clause-step : goal.returns-clause-step
returns-clause-step g c tells past base h =
    c.loop-digest.invariant.step tells past base h
    ∙ ap (λ (ds : List (List ℕ)). with_past (touched_blobs ds c.args.now past) base) (take_all c.loop-digest.digest-index c.args.named.now (omega (arith, c.loop-digest-test.false)))
