pub mod Corresponding
pub mod Causes
pub mod Planning
pub mod WholePlan
pub mod Walking
pub mod Promises
