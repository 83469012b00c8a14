use Rattle.std.proofs.Common.{◌≡◌, take, map}
use Rattle.httparse.specs.Spans.{header_bytes}
use Rattle.http_wire.specs.Fields.{field_parts}
use Rattle.http_wire.proofs.judge.fields_at.Given as goal

abbrev pub invariant-loop-span : goal.invariant-loop-span
invariant-loop-span l = map field_parts l.fields.items ≡ map (header_bytes l.bytes) (take l.span-index l.spans)
