pub mod Piles
pub mod Raised
pub mod Telling
