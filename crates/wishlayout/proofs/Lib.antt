pub mod OneWords
pub mod Way
pub mod NodeKinds
pub mod Refusing
