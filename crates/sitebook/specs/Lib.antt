pub mod Tables
pub mod Contents
pub mod Storing
pub mod Reading
