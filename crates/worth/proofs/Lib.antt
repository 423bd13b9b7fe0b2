pub mod Picking
pub mod Joining
pub mod Optimal
pub mod Alike
pub mod Sizes
pub mod Joins
pub mod Unheld
