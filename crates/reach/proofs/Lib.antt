pub mod Turns
pub mod Onward
pub mod Searching
pub mod Adding
