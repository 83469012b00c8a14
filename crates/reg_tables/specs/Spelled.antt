-- The spellings of typed rows.
use Rattle.std.specs.Prelude.{ℕ, List, ◌∷◌, ◌++◌}
use Rattle.reg_journal.specs.Spelling.{number_field, kind_field}
use Rattle.reg_tables.specs.declared.rows.ManifestRow.{ManifestRow}
use Rattle.reg_tables.specs.declared.rows.LinkRow.{LinkRow}
use Rattle.reg_tables.specs.declared.rows.BlobRow.{BlobRow}
use Rattle.reg_tables.specs.declared.rows.BlobRow.TheVariants.{Pending, Here, Doomed}

-- a manifest's kind, its size, and when it was touched last
abbrev pub manifest_spelled : ManifestRow → List ℕ
manifest_spelled row = kind_field row.kind ++ (number_field row.size ++ number_field row.touched)

-- a link's size, and its moment
abbrev pub link_spelled : LinkRow → List ℕ
link_spelled row = number_field row.size ++ number_field row.moment

-- how a blob stands
abbrev pub blob_spelled : BlobRow → List ℕ
blob_spelled (Pending touched) = 1 ∷ number_field touched
blob_spelled (Here size touched) = 2 ∷ (number_field size ++ number_field touched)
blob_spelled (Doomed entry) = 3 ∷ number_field entry
