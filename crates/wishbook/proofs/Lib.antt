pub mod Stepping
pub mod Whole
pub mod Remembering
