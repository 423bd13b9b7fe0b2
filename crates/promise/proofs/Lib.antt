pub mod Corresponding
pub mod Rereading
pub mod Earning
pub mod Agreeing
mod Preparing
mod Whole
mod Advised
pub mod Promising
