use Rattle.std.proofs.Common.{ℕ, List, rules, tests}
use Rattle.std.specs.Prelude.{not, ◌||◌}
use Rattle.std.proofs.lemmas.Map.Made.{filter_same_pairs}
use Rattle.reg_journal.specs.Changes.{is_same}
use Rattle.reg_plain.proofs.MapLaws.{retained}
use Rattle.reg_plain.proofs.ChangeLaws.{tags_moved}
use Rattle.reg_plain.proofs.state.State.drop_tags_to.Goals as goal

pub returns : goal.returns
returns c =
    let a = c.args in
    tags_moved a.self.now a.name.now a.digest.now c.retain.new.self
    (retained a.self.now.tags c.retain.new.self a.name.now a.digest.now c.retain.ensures.was_ordered
    (filter_same_pairs _ (λ (e : (List ℕ × List ℕ) × List ℕ). not (is_same e.0.0 a.name.now) || not (is_same e.1 a.digest.now)) _ (λ k v b w f' t. search (rules, tests)) a.self.now.tags.entries c.retain.new.self.entries c.retain.ensures.filtered))
