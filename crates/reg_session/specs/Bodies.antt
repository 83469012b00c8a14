-- What comes of a body that is dropped.
use Rattle.std.specs.Prelude.{ℕ, List, Option}
use Rattle.http_wire.specs.declared.body.BodyState.{BodyState}
use Rattle.http_wire.specs.Bodies.{ends_before, is_cut_short, is_malformed}
use Rattle.http_wire.specs.Filling.{Filling, within, is_too_long}
use Rattle.http_wire.specs.Messages.{ReadsBody}
use Rattle.reg_session.specs.Requests.{ReadsFront}
use Rattle.reg_session.specs.declared.bodies.Dropped.{Dropped}
use Rattle.reg_session.specs.declared.bodies.Dropped.TheVariants as answers

-- a body that decodes to something, and ends so
abbrev pub HasBodyThat : Option ℕ → BodyState → List ℕ → Filling → Type 0
HasBodyThat limit state bytes filling = (decoded : List ℕ) × ReadsBody limit state bytes decoded filling

-- what the bytes to come are, of which the first ones were read: how the body ends, or a front of it
abbrev pub Drops : Dropped → Option ℕ → BodyState → List ℕ → List ℕ → Type 0
Drops answers.Whole limit state old new = HasBodyThat limit state old (within (ends_before new))
Drops answers.TooLong limit state old new = HasBodyThat limit state old is_too_long
Drops answers.Cut limit state old new =
    (begin : List ℕ) × ReadsFront limit state old begin new × ReadsBody limit state old begin (within is_cut_short)
Drops answers.Malformed limit state old new = HasBodyThat limit state old (within is_malformed)
Drops answer limit state old new = (begin : List ℕ) × ReadsFront limit state old begin new
