pub mod Plans
pub mod Choices
