use Rattle.std.proofs.Common.{◌∙◌, sym, ap, subst}
use Rattle.std.specs.Prelude.{IsTrue}
use Rattle.reg_digest.specs.Hashing.{hashes_to}
use Rattle.depot_api.specs.Stages.{Staged}
use Rattle.upload_sessions.proofs.SealingLaws.{has_failed}
use Rattle.upload_sessions.proofs.sealed.seal.Goals as goal

pub invariant_of-result : goal.invariant_of-result
invariant_of-result g c = record {
  counted = c.length-size.ensures.length ∙ ap (λ (s : Staged). s.count) (sym c.hash_all.ensures.reads.held_stays);
  hashed = subst (λ (s : Staged). IsTrue s.tells → IsTrue (hashes_to c.in-Ok-hash_all.digest s.bytes)) (sym c.hash_all.ensures.reads.held_stays) c.in-Ok-hash_all.ensures.digest;
}

pub returns-in-Err-Failed-clause-unsealed : goal.returns-in-Err-Failed-clause-unsealed
returns-in-Err-Failed-clause-unsealed g c =
    has_failed g.S.Stage.held g.S.Stage.faults c.hash_all.result c.in-Err-Failed.field-0 c.args.stage c.hash_all.new.stage c.in-Err-Failed.is c.in-Err-Failed.field-0-is c.hash_all.ensures.reads
