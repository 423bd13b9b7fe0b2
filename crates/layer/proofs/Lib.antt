pub mod Earning
pub mod Refusing
