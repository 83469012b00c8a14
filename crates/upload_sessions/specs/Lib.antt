pub mod Troubles
pub mod Meeting
pub mod Taking
pub mod Closing
pub mod Sealing
pub mod InnerTaking
