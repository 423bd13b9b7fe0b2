pub mod Turns
pub mod Walker
pub mod Reckoner
pub mod Views
pub mod Courses
