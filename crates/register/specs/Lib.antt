pub mod Chains
pub mod Few
pub mod Keys
pub mod Register
