pub mod Plain
pub mod Unfolding
