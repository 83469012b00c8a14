use Rattle.std.proofs.Common.{rules, List, ℕ, of_calls, subst}
use Rattle.std.specs.Prelude.{IsTrue, ◌↔◌}
use Rattle.std.proofs.lemmas.Fn.{always_returns_same}
use Rattle.std.proofs.lemmas.List.{map-id}
use Rattle.reg_entries.specs.Documents.{IsDigestList}
use Rattle.reg_entries.proofs.DigestListLaws.{is_before, list_is}
use Rattle.reg_entries.proofs.document.are_digests.Goals as goal

pub returns-then-digests-le-LIST_LIMIT : goal.returns-then-digests-le-LIST_LIMIT
returns-then-digests-le-LIST_LIMIT c =
    let below = always_returns_same _ _ _ (λ a r f k. search (rules, of_calls)) in
    subst (λ ds. IsTrue c.is_sorted_by.result ↔ IsDigestList ds) (map-id c.args.digests.now)
    (list_is (λ (digest : List ℕ). digest) c.args.digests.now c.is_sorted_by.result c.if-digests-le-LIST_LIMIT.true (c.is_sorted_by.ensures.cases (is_before (λ digest. digest)) below))
