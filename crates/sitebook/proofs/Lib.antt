pub mod Cells
pub mod Storing
