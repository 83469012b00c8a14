use Rattle.std.proofs.Common.{◌≡◌, ℕ, List, ◌∷◌, ◌++◌}
use Rattle.std.specs.Prelude.{IsTrue, ◌&&◌, ◌||◌, option_copied}
use Rattle.std.specs.Vec.Iter.{into_iter_items}
use Rattle.reg_names.specs.Cause.{OnlyReads}
use Rattle.reg_names.specs.Named.{has_digest}
use Rattle.keeper_api.specs.Changes.{after}
use Rattle.reg_tables.specs.InnerPending.{is_wanted, MayStandBehind}
use Rattle.reg_tables.proofs.gather.wanted_of.Given as goal

-- those so far, and those that are left
abbrev pub invariant-loop-part : goal.invariant-loop-part
invariant-loop-part g l = record {
  reads : OnlyReads g.K.Keeper.kept g.K.Keeper.faults l.fn.keeper l.keeper ⊥;
  stand : MayStandBehind (l.table ∷ l.front) l.parts.items;
  parts : IsTrue (g.K.Keeper.kept l.fn.keeper).tells → (part : List ℕ) →
      (has_digest part l.parts.items || (has_digest part (into_iter_items l.part-iterator) && is_wanted (option_copied l.wanted) (after (g.K.Keeper.kept l.fn.keeper).rows l.pending (l.table ∷ (l.front ++ part)))))
      ≡ (has_digest part l.fn.likely.items && is_wanted (option_copied l.wanted) (after (g.K.Keeper.kept l.fn.keeper).rows l.pending (l.table ∷ (l.front ++ part))));
}
