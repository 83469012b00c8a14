pub mod Worlds
pub mod Moves
pub mod Laws
