pub mod Meaning
pub mod Answers
pub mod InnerAnswers
pub mod InnerWalks
pub mod InnerSpots
pub mod InnerLinks
pub mod InnerListing
pub mod InnerPointing
