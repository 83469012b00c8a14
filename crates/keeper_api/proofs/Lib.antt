mod TextLaws
mod PassLaws
pub mod FieldLaws
pub mod EntryLaws
pub mod TableLaws
mod SlotLaws
