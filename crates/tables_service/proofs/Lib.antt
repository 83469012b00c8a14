pub mod LookLaws
pub mod ListLaws
pub mod AnswerLaws
