pub mod Documents
pub mod InnerDocuments
pub mod State
pub mod Listing
pub mod Numbers
pub mod Routes
