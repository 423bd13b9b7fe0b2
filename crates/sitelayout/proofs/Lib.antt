pub mod OneWords
pub mod Account
pub mod Valid
pub mod Way
pub mod Refusing
