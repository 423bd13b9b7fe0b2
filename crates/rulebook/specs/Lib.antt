pub mod Acts
pub mod Drafts
pub mod Contents
