pub mod Formulas
pub mod Merging
pub mod Resting
pub mod Items
