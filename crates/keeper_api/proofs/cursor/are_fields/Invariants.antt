use Rattle.std.proofs.Common.{◌≡◌, drop}
use Rattle.keeper_api.specs.InnerFields.{are_fields}
use Rattle.keeper_api.proofs.cursor.are_fields.Given as goal

abbrev pub invariant-loop-field : goal.invariant-loop-field
invariant-loop-field l = are_fields (drop l.field-index l.fields) l.cursor ≡ are_fields l.fields l.bytes
