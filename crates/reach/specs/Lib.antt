pub mod Search
pub mod Reached
pub mod Adding
