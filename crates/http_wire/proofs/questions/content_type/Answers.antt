use Rattle.std.proofs.Common.{◌≡◌, ◌∷◌, List, subst, map}
use Rattle.std.specs.Prelude.{codes}
use Rattle.http_wire.specs.declared.head.Field.{Field}
use Rattle.http_wire.specs.Fields.{field_parts}
use Rattle.http_wire.specs.Framing.{values_of}
use Rattle.http_wire.proofs.questions.content_type.Goals as goal

pub returns-in-Some : goal.returns-in-Some
returns-in-Some c =
    let found = c.in-Some.ensures in (
      c.in-Some.value.now,
      found.0,
      subst (λ (fs : List Field). values_of (codes "content-type") (map field_parts fs) ≡ c.in-Some.value.now ∷ found.0) c.deref.ensures.value found.1,
      c.text_of.ensures,
    )
