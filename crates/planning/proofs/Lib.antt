pub mod Powers
pub mod Filling
pub mod Entries
pub mod Better
pub mod Accepting
pub mod Choosing
