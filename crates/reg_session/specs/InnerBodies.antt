-- The proof's own: no public clause cites what stands here.
use Rattle.std.specs.Prelude.{ℕ, ◌≤◌, List, Option, IfSome}
use Rattle.depot_api.specs.Limits.{file_limit}
use Rattle.http_wire.specs.declared.body.BodyState.{BodyState}
use Rattle.http_wire.specs.Bodies.{ends_before, is_cut_short, is_malformed}
use Rattle.http_wire.specs.Filling.{within, is_too_long}
use Rattle.http_wire.specs.Messages.{ReadsBody}
use Rattle.reg_session.specs.Requests.{ReadsFront}
use Rattle.reg_session.specs.declared.bodies.Dropped.{Dropped}
use Rattle.reg_session.specs.declared.bodies.Dropped.TheVariants as dropped

-- a body of so many bytes could be kept in a file
abbrev pub IsSmallLimit : Option ℕ → Type 0
IsSmallLimit limit = IfSome limit (λ most. most ≤ file_limit)

-- what was decoded of a body that was dropped
abbrev pub DropsFront : Dropped → Option ℕ → BodyState → List ℕ → List ℕ → List ℕ → Type 0
DropsFront dropped.Whole limit state begin old new = ReadsBody limit state old begin (within (ends_before new))
DropsFront dropped.TooLong limit state begin old new = ReadsBody limit state old begin is_too_long
DropsFront dropped.Cut limit state begin old new =
    ReadsFront limit state old begin new × ReadsBody limit state old begin (within is_cut_short)
DropsFront dropped.Malformed limit state begin old new = ReadsBody limit state old begin (within is_malformed)
DropsFront answer limit state begin old new = ReadsFront limit state old begin new
