use Rattle.std.proofs.Common.{◌≡◌, ℕ, List, Some, false, take}
use Rattle.std.specs.Prelude.{IsSome, IsTrue}
use Rattle.reg_names.specs.Named.{free_in, has_digest}
use Rattle.reg_plain.specs.Held.{link_at, standing_at}
use Rattle.reg_plain.proofs.state.State.has_content.Given as goal

abbrev pub invariant-loop-named : goal.invariant-loop-named
invariant-loop-named l = (d : List ℕ) → free_in d (take l.named-index l.fn.doc.named) ≡ Some false → IsSome (link_at l.fn.self l.fn.name d)

abbrev pub invariant-loop-child : goal.invariant-loop-child
invariant-loop-child l = (d : List ℕ) → IsTrue (has_digest d (take l.child-index l.fn.doc.children)) → IsSome (standing_at l.fn.self l.fn.name d)
