pub mod Checking
pub mod CommandLine
pub mod Options
pub mod Unlaid
