pub mod Hashing
pub mod Fed
