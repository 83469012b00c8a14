use Rattle.std.proofs.Common.{◌∙◌, sym, ap}
use Rattle.http_wire.specs.declared.head.Field.{Field}
use Rattle.http_wire.proofs.FieldLaws.{no_value, first_value}
use Rattle.http_wire.proofs.fields.first.Goals as goal

pub returns-in-None : goal.returns-in-None
returns-in-None c = no_value c.args.name.now c.args.fields.now (sym c.place_of.ensures.place ∙ c.in-None.is)

pub returns-in-Some : goal.returns-in-Some
returns-in-Some c =
    first_value c.args.name.now c.args.fields.now c.in-Some.at c.index-fields-at.result c.as_slice.result.now (sym c.place_of.ensures.place ∙ c.in-Some.is)
    c.in-Some.ensures.within c.index-fields-at.is (c.as_slice.ensures ∙ sym (ap (λ (f : Field). f.value) c.index-fields-at.is))
