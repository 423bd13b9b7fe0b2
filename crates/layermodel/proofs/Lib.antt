pub mod Books
pub mod Sizes
pub mod Lawfulness
pub mod Places
pub mod Recalling
pub mod VerdictsRight
pub mod Unfolds
pub mod Bits
