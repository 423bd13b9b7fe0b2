pub mod Waiting
pub mod Tracking
