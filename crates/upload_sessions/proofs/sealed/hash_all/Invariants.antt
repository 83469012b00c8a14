use Rattle.std.proofs.Common.{◌≤◌, ◌-◌, take}
use Rattle.std.specs.Prelude.{IsTrue}
use Rattle.reg_names.specs.Cause.{OnlyReads}
use Rattle.reg_digest.specs.Fed.{Holds}
use Rattle.upload_sessions.proofs.sealed.hash_all.Given as goal

-- the stage was read alone, and what it gave was fed
abbrev pub invariant-loop-at : goal.invariant-loop-at
invariant-loop-at g l =
    let staged = g.S.Stage.held l.fn.stage in record {
      reads : OnlyReads g.S.Stage.held g.S.Stage.faults l.fn.stage l.stage ⊥;
      within : l.at ≤ staged.count;
      fed : IsTrue staged.tells → Holds l.hashing (take l.at staged.bytes);
    }

abbrev pub decreases-loop-at : goal.decreases-loop-at
decreases-loop-at g l = l.length - l.at
