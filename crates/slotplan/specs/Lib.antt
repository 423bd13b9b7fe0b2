pub mod Planning
pub mod Writing
pub mod Figures
pub mod Telling
