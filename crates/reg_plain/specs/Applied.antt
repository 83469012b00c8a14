-- What becomes of a journal by an entry that may be applied.
use Rattle.std.specs.Prelude.{ℕ, Result, Ok, Err, ⊤}
use Rattle.reg_journal.specs.declared.entry.Entry.{Entry}
use Rattle.reg_journal.specs.Past.{Past}
use Rattle.reg_journal.specs.Changes.{apply}
use Rattle.reg_journal.specs.Legal.{IsLegal}
use Rattle.reg_plain.specs.declared.apply.Unapplied.{Unapplied}
use Rattle.reg_plain.specs.declared.apply.Unapplied.TheVariants.{Illegal, Full, NoMemory}

-- it was applied, or it was not
abbrev pub past_by : {A : Type 0} → Past → Entry → Result A Unapplied → Past
past_by past entry (Ok _) = apply past entry
past_by past entry (Err _) = past

-- the answer tells whether the entry may follow, unless memory was wanting
abbrev pub TellsLegality : {A : Type 0} → ℕ → Past → Entry → Result A Unapplied → Type 0
TellsLegality delay past entry (Ok _) = IsLegal delay past entry
TellsLegality delay past entry (Err Illegal) = ¬ (IsLegal delay past entry)
TellsLegality delay past entry (Err Full) = IsLegal delay past entry
TellsLegality delay past entry (Err NoMemory) = ⊤
