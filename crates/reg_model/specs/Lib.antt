pub mod Facts
pub mod Answers
pub mod Fits
pub mod Blobs
pub mod Uploads
pub mod Changing
