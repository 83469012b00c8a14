use Rattle.std.proofs.Common.{◌≡◌, ◌≤◌, length}
use Rattle.http_wire.specs.Questions.{has_element}
use Rattle.http_wire.proofs.questions.has_element.Given as goal

-- the elements so far are others
abbrev pub invariant-loop-comma : goal.invariant-loop-comma
invariant-loop-comma l = (has_element l.name l.rest ≡ has_element l.name l.initial.rest) × (length l.rest ≤ length l.value)

abbrev pub decreases-loop-comma : goal.decreases-loop-comma
decreases-loop-comma l = length l.rest
