pub mod FieldLaws
pub mod LoopLaws
pub mod AppendLaws
pub mod EntryLaws
pub mod JournalLaws
pub mod StayLaws
pub mod NameLaws
