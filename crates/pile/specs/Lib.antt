pub mod Floors
pub mod Stacks
pub mod Skipping
