use Rattle.std.proofs.Common.{codes, sym, ◌∙◌}
use Rattle.http_wire.specs.Fields.{fields_of}
use Rattle.http_wire.specs.Framing.{values_of}
use Rattle.reg_routes.proofs.TypedLaws.{typed_told}
use Rattle.reg_routes.proofs.routing.route.Goals as goal

pub returns-in-Ok-Ok : goal.returns-in-Ok-Ok
returns-in-Ok-Ok c = sym (rw (c.as_str.ensures.bytes, c.as_bytes.ensures, typed_told (values_of (codes "content-type") (fields_of c.args.head.now)) c.content_type-typed.result c.content_type-typed.ensures, c.range_start.ensures) at c.in-Ok-Ok.ensures) ∙ c.in-Ok-Ok.field-0-is

pub returns-in-Ok-Err : goal.returns-in-Ok-Err
returns-in-Ok-Err c = sym (rw (c.as_str.ensures.bytes, c.as_bytes.ensures, typed_told (values_of (codes "content-type") (fields_of c.args.head.now)) c.content_type-typed.result c.content_type-typed.ensures, c.range_start.ensures) at c.in-Ok-Err.ensures) ∙ c.in-Ok-Err.field-0-is
