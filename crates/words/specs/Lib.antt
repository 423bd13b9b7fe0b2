pub mod Words
pub mod Format
pub mod Tests
pub mod Drafts
pub mod Refusing
