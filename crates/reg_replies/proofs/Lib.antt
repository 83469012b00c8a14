mod WritingLaws
mod FieldLaws
mod ListLaws
mod JsonLaws
