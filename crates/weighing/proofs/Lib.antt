pub mod Joining
pub mod Table
