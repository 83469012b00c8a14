use Rattle.std.proofs.Common.{◌∙◌, sym, ap}
use Rattle.http_wire.specs.declared.head.Field.{Field}
use Rattle.http_wire.proofs.FieldLaws.{only_value, many_values, no_value}
use Rattle.http_wire.proofs.fields.only.Goals as goal

pub returns-in-None : goal.returns-in-None
returns-in-None c = no_value c.args.name.now c.args.fields.now (sym c.place_of.ensures.place ∙ c.in-None.is)

pub returns-in-None-place_of : goal.returns-in-None-place_of
returns-in-None-place_of c =
    only_value c.args.name.now c.args.fields.now c.in-Some.at c.index-fields-at.result c.as_slice.result.now (sym c.place_of.ensures.place ∙ c.in-Some.is)
    c.in-Some.ensures.within (sym c.place_of-in-Some.ensures.place ∙ c.in-None-place_of.is) c.index-fields-at.is
    (c.as_slice.ensures ∙ sym (ap (λ (f : Field). f.value) c.index-fields-at.is))

pub returns-in-Some-place_of : goal.returns-in-Some-place_of
returns-in-Some-place_of c =
    many_values c.args.name.now c.args.fields.now c.in-Some.at c.in-Some-place_of.field-0 (sym c.place_of.ensures.place ∙ c.in-Some.is) c.in-Some.ensures.within
    (sym c.place_of-in-Some.ensures.place ∙ c.in-Some-place_of.is) c.in-Some-place_of.ensures.within
