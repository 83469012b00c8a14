-- A request head as a call answers it.
use Rattle.std.specs.Prelude.{◌≡◌, ℕ, List, map}
use Rattle.httparse.specs.Grammar.{RequestHead}
use Rattle.httparse.specs.Spans.{name_and_value}
use Rattle.http_wire.specs.declared.head.Field.{Field}
use Rattle.http_wire.specs.declared.head.Head.{Head}

-- a field's name, and its value without the white space around it
abbrev pub field_parts : Field → List ℕ × List ℕ
field_parts f = (f.name, f.value)

-- the names and the values of a head's fields, in their order
abbrev pub fields_of : Head → List (List ℕ × List ℕ)
fields_of head = map field_parts head.fields.items

-- the head has the parts of that one of the grammar
pub record Shows (head : Head) (h : RequestHead) : Type 0 where
  pub method : head.method ≡ h.method
  pub target : head.target ≡ h.target
  pub minor : head.minor ≡ h.minor
  pub fields : fields_of head ≡ map name_and_value h.fields
