pub mod Kinds
pub mod Site
pub mod OneWord
pub mod Layout
pub mod WordTests
