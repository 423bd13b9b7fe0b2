pub mod Models
pub mod Idle
pub mod Histories
pub mod Masks
