use Rattle.std.proofs.Common.{false, ap, ◌∙◌}
use Rattle.std.specs.BTreeMap as tree
use Rattle.depot_api.specs.Changes.{with_loan}
use Rattle.depot_api.specs.Paths.{path_cmp}
use Rattle.depot_api.specs.Slots.{slots_held}
use Rattle.depot_api.proofs.SlotLaws.{held_lent, lent_instead, lent_itself, same_from_ne, apart_from_ne}
use Rattle.depot_api.proofs.memory.slots.Slots.lend_instead.Goals as goal
use Rattle.depot_api.proofs.memory.slots.Slots.lend_instead.Goals.{then-ne, else-ne}

pub returns-clause-lent : goal.returns-clause-lent
returns-clause-lent c =
    let from = c.args.from.now in
    let to = c.args.to.now in
    let held = slots_held c.args.self.now in
    let lent = held_lent (tree.get path_cmp c.args.self.now.slots) (tree.get path_cmp c.insert.new.self) to (rw c.in_ok-copy.ensures at c.in_ok-insert.ensures.updates.0) in
    elim c.if-ne.branch [
      | then-ne w ↦ ap slots_held w.self-is ∙ w.end_loan.ensures ∙ ap (λ h. with_loan h from false) lent ∙ lent_instead held from to (apart_from_ne from to w.if-ne.ensures)
      | else-ne w ↦ ap slots_held w.self-is ∙ lent ∙ lent_itself held from to (same_from_ne from to w.if-ne.ensures)
    ]
