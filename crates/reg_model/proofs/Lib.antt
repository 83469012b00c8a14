pub mod AnswerLaws
pub mod ChangingLaws
pub mod ReplyLaws
