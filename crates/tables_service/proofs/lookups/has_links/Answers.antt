use Rattle.std.proofs.Common.{rules, List, ℕ, Some, None, is_some, sym, ap, ◌∙◌}
use Rattle.reg_names.specs.Digests.{IsDigest}
use Rattle.reg_tables.specs.declared.rows.LinkRow.{LinkRow}
use Rattle.reg_tables.specs.Keys.{link_key}
use Rattle.reg_tables.specs.Nexts.{IsNextAt}
use Rattle.reg_tables.specs.Spelled.{link_spelled}
use Rattle.tables_service.proofs.LookLaws.{link_told, no_links}
use Rattle.tables_service.proofs.lookups.has_links.Goals as goal

pub returns-in-Some-clause-value : goal.returns-in-Some-clause-value
returns-in-Some-clause-value g c = λ journal t.
    let kept = g.K.Keeper.kept c.args.keeper.now in
    let name = c.args.name.now in
    let next : IsNextAt {A = List ℕ × LinkRow} IsDigest (λ digest. link_key name digest) (λ x. x.0) (λ x. link_spelled x.1) None kept.rows (Some (c.in-Some.digest, c.in-Some.field-0-1)) = rw c.in-Some.is at (c.in_ok-digest.ensures.value t.tells) in
    let digest_is : IsDigest c.in-Some.digest = search rules in
    (c.in-Some.digest, sym (link_told journal kept t name c.in-Some.digest c.as_str-name.ensures.name digest_is) ∙ ap is_some next.1)

pub returns-in-None-clause-value : goal.returns-in-None-clause-value
returns-in-None-clause-value g c = λ journal t.
    let kept = g.K.Keeper.kept c.args.keeper.now in
    let name = c.args.name.now in
    let next : IsNextAt {A = List ℕ × LinkRow} IsDigest (λ digest. link_key name digest) (λ x. x.0) (λ x. link_spelled x.1) None kept.rows None = rw c.in-None.is at (c.in_ok-digest.ensures.value t.tells) in
    no_links journal kept t name c.as_str-name.ensures.name next
