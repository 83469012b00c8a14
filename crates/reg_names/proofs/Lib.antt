pub mod DigestTexts
pub mod NamesLaw
pub mod TextBytes
pub mod UploadIdTexts
pub mod ReferenceTexts
pub mod TextOrder
pub mod NamedLaws
