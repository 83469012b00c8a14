-- The rows that a journal derives.
use Rattle.std.proofs.Common.{◌≡◌, ℕ, List, Option, refl, ap, ◌∙◌}
use Rattle.std.specs.Prelude.{◌≤◌, length}
use Rattle.reg_journal.specs.declared.entry.Entry.{Entry}
use Rattle.reg_journal.specs.Changes.{replay}
use Rattle.reg_journal.specs.Past.{Past}
use Rattle.reg_journal.proofs.JournalLaws.{entries_are}
use Rattle.keeper_api.specs.Rows.{Rows}
use Rattle.reg_tables.specs.Items.{Item, last_number, entry_at, manifest_at, tag_at, named_at, child_at, link_at, blob_at, none_at, elsewhere, item_of}
use Rattle.reg_tables.specs.Derived.{row_of, with_past, rows_of, IsDerived, journal_limit, last_row}
use Rattle.reg_tables.specs.Keys.{last_number_key}

-- a row of what a journal left is the same when it is put in its place again
again : (past : Past) (item : Item) (row : Option (List ℕ)) → row_of past item row ≡ row_of past item (row_of past item row)
again past last_number row = refl
again past (entry_at number) row = refl
again past (manifest_at name digest) row = refl
again past (tag_at name tag) row = refl
again past (named_at name manifest digest) row = refl
again past (child_at name parent child) row = refl
again past (link_at name digest) row = refl
again past (blob_at digest) row = refl
again past none_at row = refl
again past elsewhere row = refl

pub given_again : (past : Past) (rows : Rows) → with_past past rows ≡ with_past past (with_past past rows)
given_again past rows = λ i key. again past (item_of key) (rows key) i

pub given_derived : (journal : List Entry) (others : Rows) → length journal ≤ journal_limit → IsDerived journal (rows_of journal others)
given_derived journal others few = record { derived = given_again (replay journal) others; few = few }

-- what stands at a key of an item
pub told : (journal : List Entry) (rows : Rows) (key : List ℕ) (item : Item) → IsDerived journal rows → item_of key ≡ item → rows key ≡ row_of (replay journal) item (rows key)
told journal rows key item derived is = ap (λ (r : Rows). r key) derived.derived ∙ ap (λ (i : Item). row_of (replay journal) i (rows key)) is

pub told_last : (journal : List Entry) (rows : Rows) → IsDerived journal rows → rows last_number_key ≡ last_row journal
told_last journal rows derived = told journal rows last_number_key last_number derived refl ∙ ap last_row (entries_are journal)
