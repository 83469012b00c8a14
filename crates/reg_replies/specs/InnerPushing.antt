-- The proof's own: no public clause cites what stands here.
-- What is put behind a text.
use Rattle.std.specs.Prelude.{◌≡◌, ◌++◌, ℕ, List, Result, IfOk, String, string_bytes}
use Rattle.std.specs.declared.alloc.Global.{Global}

-- the text is longer by that, unless memory was wanting
abbrev pub Puts : {T E : Type 0} → Result T E → String Global → String Global → List ℕ → Type 0
Puts result old new more = IfOk result (λ _. string_bytes new ≡ string_bytes old ++ more)

-- the text is that, unless memory was wanting
abbrev pub Spells : {E : Type 0} → Result (String Global) E → List ℕ → Type 0
Spells result text = IfOk result (λ spelled. string_bytes spelled ≡ text)
