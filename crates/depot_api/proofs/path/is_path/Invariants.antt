use Rattle.std.proofs.Common.{map}
use Rattle.std.specs.Prelude.{IsTrue}
use Rattle.std.specs.List.{list_all}
use Rattle.depot_api.specs.Paths.{is_part}
use Rattle.depot_api.proofs.path.is_path.Given as goal

abbrev pub invariant-loop-part : goal.invariant-loop-part
invariant-loop-part l = IsTrue (list_all is_part (map (λ x. x.now) l.yielded))
