pub mod Verdicts
pub mod Layered
pub mod Records
