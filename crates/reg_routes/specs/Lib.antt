pub mod Targets
pub mod Colons
pub mod Queries
pub mod Routing
pub mod InnerAnswers
