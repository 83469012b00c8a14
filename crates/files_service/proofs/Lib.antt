pub mod AnswerLaws
pub mod ChangeLaws
pub mod DroppingLaws
pub mod FinishingLaws
pub mod OutcomeLaws
pub mod ServingLaws
