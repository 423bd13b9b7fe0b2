pub mod Agreement
pub mod Replays
