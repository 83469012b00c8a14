-- The phase of an import, and the row that keeps it.
use Rattle.std.specs.Prelude.{◌≡◌, ℕ, ◌^◌, ◌<◌, ◌≤◌, List, [], ◌∷◌, ◌++◌, length, ⊤}
use Rattle.std.specs.Option.{unwrap_or}
use Rattle.std.specs.Str.{IsUtf8}
use Rattle.reg_names.specs.Digests.{AreBytes}
use Rattle.reg_journal.specs.Entries.{IsNumber}
use Rattle.reg_journal.specs.Spelling.{number_field}
use Rattle.depot_api.specs.Paths.{IsPath, path_text}
use Rattle.keeper_api.specs.Fields.{counted}
use Rattle.keeper_api.specs.Rows.{Rows}
use Rattle.import_phase.specs.declared.phase.Cursor.{Cursor}
use Rattle.import_phase.specs.declared.phase.Cursor.TheVariants as cursor
use Rattle.import_phase.specs.declared.phase.Two.{Two}
use Rattle.import_phase.specs.declared.phase.Two.TheVariants as second
use Rattle.import_phase.specs.declared.phase.Phase.{Phase}
use Rattle.import_phase.specs.declared.phase.Phase.TheVariants as phase

-- ---- the row

-- a path: its text, behind two bytes that count it
abbrev pub path_field : List (List ℕ) → List ℕ
path_field path = counted (path_text path)

-- a key: its table's byte, and its bytes behind two bytes that count them
abbrev pub key_field : List ℕ → List ℕ
key_field [] = []
key_field (table ∷ bytes) = table ∷ counted bytes

-- the cursor of steps one and three
abbrev pub cursor_spelled : Cursor → List ℕ
cursor_spelled cursor.Start = 0 ∷ []
cursor_spelled (cursor.At path) = 1 ∷ path_field path
cursor_spelled cursor.Done = 2 ∷ []

-- the cursor of step two
abbrev pub two_spelled : Two → List ℕ
two_spelled second.FilesStart = 0 ∷ []
two_spelled (second.Files path) = 1 ∷ path_field path
two_spelled second.RowsStart = 2 ∷ []
two_spelled (second.Rows key) = 3 ∷ key_field key

-- the row of a phase
abbrev pub phase_spelled : Phase → List ℕ
phase_spelled (phase.Files one) = 1 ∷ cursor_spelled one
phase_spelled (phase.Frozen two) = 2 ∷ two_spelled two
phase_spelled (phase.Tables since three) = 3 ∷ (number_field since ++ cursor_spelled three)

-- ---- the phase of tables

-- where the row is: table 0, byte 2
abbrev pub phase_key : List ℕ
phase_key = 0 ∷ 2 ∷ []

-- the row of the phase that tables are in: without one, files serve and nothing was imported yet
abbrev pub phase_in : Rows → List ℕ
phase_in rows = unwrap_or (rows phase_key) (phase_spelled (phase.Files cursor.Start))

-- tables are in a phase: it is the one that the row spells
abbrev pub IsPhase : Rows → Phase → Type 0
IsPhase rows now = phase_spelled now ≡ phase_in rows

-- ---- which phases a row may keep

-- a path, whose text is UTF-8
pub record IsKeptPath (path : List (List ℕ)) : Type 0 where
  pub parts : IsPath path
  pub utf8 : IsUtf8 (path_text path)

-- a table's byte and bytes, so few that two bytes count them
pub record IsKeptKey (key : List ℕ) : Type 0 where
  pub table : ℕ
  pub bytes : List ℕ
  pub is : key ≡ table ∷ bytes
  pub byte : table < 256
  pub are : AreBytes bytes
  pub short : length bytes < 2 ^ 16

abbrev pub IsKeptCursor : Cursor → Type 0
IsKeptCursor cursor.Start = ⊤
IsKeptCursor (cursor.At path) = IsKeptPath path
IsKeptCursor cursor.Done = ⊤

abbrev pub IsKeptTwo : Two → Type 0
IsKeptTwo second.FilesStart = ⊤
IsKeptTwo (second.Files path) = IsKeptPath path
IsKeptTwo second.RowsStart = ⊤
IsKeptTwo (second.Rows key) = IsKeptKey key

-- its cursor may be kept, and entries are numbered from 1
abbrev pub IsKept : Phase → Type 0
IsKept (phase.Files one) = IsKeptCursor one
IsKept (phase.Frozen two) = IsKeptTwo two
IsKept (phase.Tables since three) = IsNumber since × (1 ≤ since) × IsKeptCursor three

-- ---- what the types of its parts leave open of that

-- two bytes count a key's bytes, which stand behind its table's byte
abbrev pub IsBoundedTwo : Two → Type 0
IsBoundedTwo second.FilesStart = ⊤
IsBoundedTwo (second.Files path) = ⊤
IsBoundedTwo second.RowsStart = ⊤
IsBoundedTwo (second.Rows key) = length key ≤ 2 ^ 16

abbrev pub IsBounded : Phase → Type 0
IsBounded (phase.Files one) = ⊤
IsBounded (phase.Frozen two) = IsBoundedTwo two
IsBounded (phase.Tables since three) = 1 ≤ since
