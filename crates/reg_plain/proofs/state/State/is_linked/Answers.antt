use Rattle.std.proofs.Common.{◌≡◌, ℕ, true, List, [], nat_eq, rules, tests}
use Rattle.std.specs.Cmp.Lexicographic.{pointwise}
use Rattle.std.proofs.lemmas.Iterator.{cases_from_any}
use Rattle.std.proofs.lemmas.Iterator.Consumers.{YieldsList-from_rest}
use Rattle.reg_journal.specs.declared.past.KeptLink.{KeptLink}
use Rattle.reg_plain.proofs.MapLaws.{walk_by}
use Rattle.reg_plain.proofs.FactLaws.{linked_by}
use Rattle.reg_plain.proofs.state.State.is_linked.Goals as goal

pub returns : goal.returns
returns c = λ entries.
    linked_by c.args.self.now entries c.args.digest.now c.any.result
    (walk_by c.args.self.now.links (λ (e : (List ℕ × List ℕ) × KeptLink). (pointwise nat_eq e.0.1 c.args.digest.now) ≡ true) (([], []), record { size = 0; moment = 0 }) c.any.result c.iter.ensures.ordered
    (cases_from_any _ _ _ (λ (e : (List ℕ × List ℕ) × KeptLink). (pointwise nat_eq e.0.1 c.args.digest.now) ≡ true) (λ (e : (List ℕ × List ℕ) × KeptLink). ¬ ((pointwise nat_eq e.0.1 c.args.digest.now) ≡ true)) c.any.ensures.ran (YieldsList-from_rest c.args.self.now.links.entries c.iter.ensures.rest) (λ x q k. search (rules, tests)) (λ x q k. search (rules, tests))))
