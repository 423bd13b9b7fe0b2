pub mod InMemory
pub mod BookAt
