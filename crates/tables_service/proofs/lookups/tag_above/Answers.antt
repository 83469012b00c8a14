use Rattle.std.proofs.Common.{List, ℕ, Some, None}
use Rattle.std.specs.Prelude.{option_copied}
use Rattle.reg_names.specs.Tags.{IsTag}
use Rattle.reg_tables.specs.Keys.{tag_key}
use Rattle.reg_tables.specs.Nexts.{IsNextAt}
use Rattle.tables_service.proofs.LookLaws.{next_found, next_none}
use Rattle.tables_service.proofs.lookups.tag_above.Goals as goal

pub returns-in-Some-clause-value : goal.returns-in-Some-clause-value
returns-in-Some-clause-value g c = λ journal t.
    let kept = g.K.Keeper.kept c.args.keeper.now in
    let name = c.args.name.now in
    let after = option_copied c.args.after in
    let next : IsNextAt {A = List ℕ × List ℕ} IsTag (λ tag. tag_key name tag) (λ x. x.0) (λ x. x.1) after kept.rows (Some (c.in-Some.tag, c.in-Some.field-0-1)) = rw c.in-Some.is at (c.in_ok-tag.ensures.value t.tells) in
    next_found journal kept t name c.in-Some.tag c.in-Some.field-0-1 after c.as_str-name.ensures.name c.as_str-tag.ensures.tag next

pub returns-in-None-clause-value : goal.returns-in-None-clause-value
returns-in-None-clause-value g c = λ journal t.
    let kept = g.K.Keeper.kept c.args.keeper.now in
    let name = c.args.name.now in
    let after = option_copied c.args.after in
    let next : IsNextAt {A = List ℕ × List ℕ} IsTag (λ tag. tag_key name tag) (λ x. x.0) (λ x. x.1) after kept.rows None = rw c.in-None.is at (c.in_ok-tag.ensures.value t.tells) in
    next_none journal kept t name after c.as_str-name.ensures.name next
