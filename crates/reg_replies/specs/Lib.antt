pub mod Statuses
pub mod Refusals
pub mod Json
pub mod Replies
pub mod InnerBodies
pub mod Writing
pub mod InnerPushing
