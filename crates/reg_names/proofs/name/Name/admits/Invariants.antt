use Rattle.std.proofs.Common.{◌≡◌, drop}
use Rattle.reg_names.specs.Names.{begins}
use Rattle.reg_names.specs.InnerScans.{accepts}
use Rattle.reg_names.proofs.name.Name.admits.Given as goal

-- The text is a name where the bytes to come are accepted from here.
abbrev pub invariant-loop-byte : goal.invariant-loop-byte
invariant-loop-byte l = accepts l.spot (drop l.byte-index l.text) ≡ begins l.text
