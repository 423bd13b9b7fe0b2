pub mod Bytes
pub mod Pens
