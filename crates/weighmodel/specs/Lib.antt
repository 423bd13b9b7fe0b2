pub mod Weighings
