pub mod Rule
pub mod Layout
pub mod WordTests
