pub mod ListingLaws
pub mod DigestListLaws
