-- What a refusal tells.
use Rattle.std.specs.Prelude.{IsErrOf, Result}
use Rattle.reg_names.specs.declared.refused.Refused.{Refused}
use Rattle.reg_names.specs.declared.refused.Refused.TheVariants.{Failed}

-- a device failed in the call
abbrev pub HasFailed : {A : Type 0} → Result A Refused → Type 0
HasFailed result = IsErrOf result Failed
