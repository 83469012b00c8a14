use Rattle.std.proofs.Common.{sym, subst, ◌∙◌}
use Rattle.keeper_api.specs.Rows.{Finds}
use Rattle.reg_tables.specs.Keys.{payload_key}
use Rattle.tables_service.specs.InnerAnswers.{FindsPayload}
use Rattle.tables_service.proofs.AnswerLaws.{stored_found}
use Rattle.tables_service.proofs.manifests.stored.Goals as goal

pub returns-then-branch-clause-value : goal.returns-then-branch-clause-value
returns-then-branch-clause-value g c = λ journal t.
    let kept = g.K.Keeper.kept c.args.keeper.now in
    let name = c.args.name.now in
    let digest = c.args.digest.now in
    let has = sym (c.in_ok-has_manifest.ensures.value journal t.told) ∙ c.if-branch.true in
    let finds = subst (λ k. Finds k c.payload.result (λ rows. FindsPayload digest (rows (payload_key name digest)))) c.has_manifest.ensures.reads.reads.held_stays c.payload.ensures.value in
    stored_found journal kept t name digest has c.payload.result finds
