-- The proof's own: no public clause cites what stands here.
-- The tables, as tests.
use Rattle.std.specs.Prelude.{ℕ, ◌&&◌, ◌||◌, ◌==◌, Bool, true, false, List, [], ◌∷◌}
use Rattle.keeper_api.specs.declared.field.Field.{Field}
use Rattle.keeper_api.specs.InnerFields.{are_fields}
use Rattle.keeper_api.specs.InnerEntries.{is_entry}
use Rattle.keeper_api.specs.Tables.{Form, made_of, one_of, an_entry, anything, Line, lines}

abbrev pub is_one_of : List (List Field) → List ℕ → Bool
is_one_of [] row = false
is_one_of (fields ∷ others) row = are_fields fields row || is_one_of others row

abbrev pub is_form : Form → List ℕ → Bool
is_form (made_of fields) row = are_fields fields row
is_form (one_of lists) row = is_one_of lists row
is_form an_entry row = is_entry row
is_form anything row = true

abbrev pub is_of : Line → ℕ → List ℕ → List ℕ → Bool
is_of line table key row = table == line.table && (are_fields line.key key && is_form line.row row)

abbrev pub has_line : List Line → ℕ → List ℕ → List ℕ → Bool
has_line [] table key row = false
has_line (l ∷ ls) table key row = is_of l table key row || has_line ls table key row

abbrev pub may_stand : List ℕ → List ℕ → Bool
may_stand [] row = false
may_stand (table ∷ key) row = has_line lines table key row
