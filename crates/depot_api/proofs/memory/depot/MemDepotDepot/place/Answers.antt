use Rattle.std.proofs.Common.{false, rules, refl, ap, sym, ◌∙◌}
use Rattle.std.specs.BTreeMap as tree
use Rattle.depot_api.specs.Changes.{with_loan, with_shelved}
use Rattle.depot_api.specs.Paths.{path_cmp}
use Rattle.depot_api.specs.MemDepot.{depot_held}
use Rattle.depot_api.specs.MemStage.{stage_held}
use Rattle.depot_api.specs.Slots.{staged_at}
use Rattle.depot_api.proofs.SlotLaws.{placed_there, placed_new, put_from_shelved}
use Rattle.depot_api.proofs.memory.depot.MemDepotDepot.place.Goals as goal

pub returns-in-Some-clause-changes : goal.returns-in-Some-clause-changes
returns-in-Some-clause-changes c = record {
  made = (rw c.path.ensures at c.end_loan.ensures) ∙ placed_there (tree.get path_cmp c.args.self.now.slots.slots) (stage_held c.args.stage) c.args.to.now c.in-Some.file.now c.in-Some.ensures;
  cause = search rules;
}

pub returns-clause-changes : goal.returns-clause-changes
returns-clause-changes c =
    let held = depot_held c.args.self.now in
    let stage = stage_held c.args.stage in
    let to = c.args.to.now in
    record {
      made = (rw (c.in-Ok.ensures.path, c.into_parts-bytes.ensures.bytes) at c.shelve-2.ensures) ∙ ap (λ h. with_shelved h (staged_at to stage.bytes)) (rw c.path-2.ensures at c.in-Ok.ensures.lent) ∙ put_from_shelved (with_loan held stage.path false) to stage.bytes refl ∙ placed_new held stage to (sym c.in_default.ensures);
      cause = search rules;
    }
