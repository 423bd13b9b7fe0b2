pub mod Steps
pub mod Drafts
pub mod Gathering
pub mod Book
pub mod Contents
