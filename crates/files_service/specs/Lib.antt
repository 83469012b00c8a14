pub mod Facts
pub mod Changing
pub mod Finishing
pub mod Answers
pub mod InnerAnswers
pub mod InnerChanging
pub mod InnerFinishing
