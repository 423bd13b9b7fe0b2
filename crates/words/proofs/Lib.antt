pub mod Reading
pub mod Encoding
pub mod Fields
pub mod Tests
pub mod Drafts
pub mod Refusing
