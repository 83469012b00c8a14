-- The proof's own: no public clause cites what stands here.
-- The lengths of rows, and the numbers that they begin with.
use Rattle.std.specs.Prelude.{◌≡◌, ℕ, ◌≤◌, Bool, List, length, slice_index}
use Rattle.reg_journal.specs.Spelling.{free_field}

pub record IsManifestRow (row : List ℕ) : Type 0 where
  pub long : length row ≡ 17
  pub some : 1 ≤ slice_index row 0
  pub most : slice_index row 0 ≤ 4

abbrev pub IsLinkRow : List ℕ → Type 0
IsLinkRow row = length row ≡ 16

-- the number that a blob's row begins with tells how long it is
pub record IsBlobRow (row : List ℕ) : Type 0 where
  pub some : 1 ≤ slice_index row 0
  pub most : slice_index row 0 ≤ 3
  pub short : 9 ≤ length row
  pub pending : slice_index row 0 ≡ 1 → length row ≡ 9
  pub here : slice_index row 0 ≡ 2 → length row ≡ 17
  pub doomed : slice_index row 0 ≡ 3 → length row ≡ 9

-- whether a digest is free
abbrev pub IsFreeRow : List ℕ → Type 0
IsFreeRow row = (free : Bool) × (row ≡ free_field free)
