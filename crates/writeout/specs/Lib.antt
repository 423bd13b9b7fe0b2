pub mod Book
pub mod Copies
pub mod Tables
