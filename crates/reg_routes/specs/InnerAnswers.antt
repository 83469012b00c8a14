-- The proof's own: no public clause cites what stands here.
-- What calls answer, unless memory was wanting.
use Rattle.std.specs.Prelude.{◌≡◌, Result, IfOk}

-- the call answers that
abbrev pub Answers : {T E : Type 0} → Result T E → T → Type 0
Answers result value = IfOk result (λ answer. answer ≡ value)
