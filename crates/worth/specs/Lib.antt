pub mod Worths
pub mod Policies
pub mod Unheld
pub mod Choosing
