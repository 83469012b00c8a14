pub mod Shortness
pub mod MeaningLaws
pub mod BrokenLaws
pub mod WalkLaws
pub mod LinkLaws
pub mod ListingLaws
pub mod PointingLaws
