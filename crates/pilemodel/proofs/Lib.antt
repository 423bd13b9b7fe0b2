pub mod Keeping
pub mod Pushing
pub mod Telling
