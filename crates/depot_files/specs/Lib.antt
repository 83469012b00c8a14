pub mod Silence
pub mod InnerKinds
pub mod InnerMoves
