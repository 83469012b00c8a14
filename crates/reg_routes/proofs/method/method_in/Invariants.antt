use Rattle.std.proofs.Common.{◌≡◌, drop}
use Rattle.std.specs.List.{find}
use Rattle.reg_entries.specs.Routes.{method_text}
use Rattle.reg_routes.specs.Targets.{is}
use Rattle.reg_routes.proofs.method.method_in.Given as goal

-- the methods that are left have the one that all methods have
abbrev pub invariant-loop-method : goal.invariant-loop-method
invariant-loop-method l = find (λ m. is l.name (method_text m)) l.methods ≡ find (λ m. is l.name (method_text m)) (drop l.method-index l.methods)
