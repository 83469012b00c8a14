pub mod Held
pub mod Applied
pub mod Answers
pub mod InnerChanges
pub mod InnerAnswers
