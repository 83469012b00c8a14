pub mod Places
pub mod Folders
pub mod InnerParts
