pub mod OneWord
pub mod Faithful
pub mod Refusing
mod Examples
