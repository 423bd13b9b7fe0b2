pub mod Holding
pub mod Lawful
