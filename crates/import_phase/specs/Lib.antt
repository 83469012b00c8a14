pub mod Phases
pub mod InnerForms
