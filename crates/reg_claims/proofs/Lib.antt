pub mod OneClaimLaws
pub mod StandingLaws
pub mod SoundLaws
