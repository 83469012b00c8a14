-- What it is to read a text exactly.
use Rattle.std.specs.Prelude.{◌≡◌, ◌≢◌, Option, Some, None}

-- The value is the text, which is in the grammar; nothing is read only where the text is not.
abbrev pub ReadsExactly : {T : Type 0} → (T → Type 0) → T → Option T → Type 0
ReadsExactly IsIn text (Some value) = (value ≡ text) × IsIn text
ReadsExactly IsIn text None = ¬ IsIn text

-- The value is one of these and is spelled so; nothing is read only where none of these is.
abbrev pub ReadsBack : {V T : Type 0} → (V → Type 0) → (V → T) → T → Option V → Type 0
ReadsBack IsIn spell text (Some value) = IsIn value × (spell value ≡ text)
ReadsBack IsIn spell text None = (value : _) → IsIn value → spell value ≢ text
