use Rattle.std.proofs.Common.{◌≡◌, ◌∷◌, drop}
use Rattle.std.specs.String.{string_bytes}
use Rattle.depot_api.specs.Paths.{path_text}
use Rattle.depot_api.proofs.path.Part.join.Given as goal

-- the text so far and the parts that are left make the text of all
abbrev pub invariant-loop-part : goal.invariant-loop-part
invariant-loop-part l = path_text (string_bytes l.text ∷ drop l.part-index l.rest) ≡ path_text l.fn.parts
