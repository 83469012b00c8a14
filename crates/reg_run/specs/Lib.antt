pub mod Devices
pub mod Statuses
pub mod Arguments
pub mod Runs
