use Rattle.std.proofs.Common.{◌∙◌, ◌∷◌, ◌++◌, None, ap, List, ℕ}
use Rattle.keeper_api.specs.Changes.{after}
use Rattle.keeper_api.specs.Rows.{with_row}
use Rattle.reg_tables.proofs.DropLaws.{parts_next}
use Rattle.reg_tables.proofs.manifests.drop_all.Goals as goal

pub loop-part-preserved : goal.loop-part-preserved
loop-part-preserved c rows =
    let a = c.args in
    let front = a.table ∷ a.front.now in
    c.in_ok-forget.ensures rows
    ∙ ap (λ (k : List ℕ). with_row (after rows c.loop-part.pending) k None) (c.in_ok-key.ensures ∙ ap (λ (p : List ℕ). front ++ p) c.as_slice.ensures)
    ∙ ap (λ r. with_row r (front ++ c.part-item.result) None) (c.loop-part.invariant rows)
    ∙ parts_next front a.parts.now c.loop-part.part-index c.part-item.result (after rows a.pending.now) c.loop-part-test.true c.part-item.is
