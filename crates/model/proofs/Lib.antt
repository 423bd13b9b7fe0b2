pub mod Laws
pub mod Paths
