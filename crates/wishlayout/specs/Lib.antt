pub mod Wishes
pub mod OneWord
pub mod Kinds
pub mod Layout
pub mod WordTests
