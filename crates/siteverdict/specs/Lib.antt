pub mod Counting
pub mod Tracking
