pub mod Towers
pub mod Stacking
pub mod Turns
