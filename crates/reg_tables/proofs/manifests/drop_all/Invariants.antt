use Rattle.std.proofs.Common.{◌≡◌, ◌∷◌, take}
use Rattle.keeper_api.specs.Changes.{after}
use Rattle.keeper_api.specs.Rows.{Rows}
use Rattle.reg_tables.specs.InnerPending.{without_parts}
use Rattle.reg_tables.proofs.manifests.drop_all.Given as goal

-- the parts so far are dropped
abbrev pub invariant-loop-part : goal.invariant-loop-part
invariant-loop-part l = (rows : Rows) → after rows l.pending ≡ without_parts (l.table ∷ l.front) (take l.part-index l.parts) (after rows l.fn.pending)
