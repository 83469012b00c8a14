use Rattle.std.proofs.Common.{rules, of_calls}
use Rattle.std.proofs.lemmas.Fn.{always_returns_same}
use Rattle.reg_names.specs.declared.named.Named.{Named}
use Rattle.reg_entries.proofs.DigestListLaws.{is_before, list_is}
use Rattle.reg_entries.proofs.document.are_named.Goals as goal

pub returns-then-named-le-LIST_LIMIT : goal.returns-then-named-le-LIST_LIMIT
returns-then-named-le-LIST_LIMIT c =
    let below = always_returns_same _ _ _ (λ a r f k. search (rules, of_calls)) in
    list_is (λ (n : Named). n.digest) c.args.named.now c.is_sorted_by.result c.if-named-le-LIST_LIMIT.true (c.is_sorted_by.ensures.cases (is_before (λ n. n.digest)) below)
