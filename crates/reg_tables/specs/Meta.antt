-- The rows of the registry itself: the version of the tables, and the delay of reviews.
use Rattle.std.specs.Prelude.{◌≡◌, ℕ, Bool, true, false, List, [], ◌∷◌, Some, None}
use Rattle.std.specs.Option.{unwrap_or}
use Rattle.reg_journal.specs.Spelling.{number_field}
use Rattle.keeper_api.specs.Rows.{Rows}

abbrev pub version_key : List ℕ
version_key = 0 ∷ 0 ∷ []

abbrev pub delay_key : List ℕ
delay_key = 0 ∷ 1 ∷ []

-- the version is 1
abbrev pub version_row : List ℕ
version_row = number_field 1

-- a delay in seconds
abbrev pub delay_row : ℕ → List ℕ
delay_row delay = number_field delay

-- the tables are of version 1
abbrev pub IsOfVersion : Rows → Type 0
IsOfVersion rows = rows version_key ≡ Some version_row

-- the delay that tables keep: without a row, it is 0
abbrev pub delay_in : Rows → List ℕ
delay_in rows = unwrap_or (rows delay_key) (delay_row 0)

abbrev pub IsDelay : Rows → ℕ → Type 0
IsDelay rows delay = delay_row delay ≡ delay_in rows

-- whether a version was found: 1 is the only one that may stand
abbrev pub TellsVersion : Rows → Bool → Type 0
TellsVersion rows true = IsOfVersion rows
TellsVersion rows false = rows version_key ≡ None
