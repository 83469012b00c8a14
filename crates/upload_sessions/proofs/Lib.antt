pub mod ShelvingLaws
pub mod MeetingLaws
pub mod TakingLaws
pub mod SealingLaws
