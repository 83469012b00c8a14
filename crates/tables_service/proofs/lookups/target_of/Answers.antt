use Rattle.tables_service.proofs.LookLaws.{target_found}
use Rattle.tables_service.proofs.lookups.target_of.Goals as goal

pub returns-clause-value : goal.returns-clause-value
returns-clause-value g c = λ journal t.
    target_found journal (g.K.Keeper.kept c.args.keeper.now) t c.args.name.now c.args.tag.now c.as_str-name.ensures.name c.as_str-tag.ensures.tag c.find_tag.result c.find_tag.ensures.value
