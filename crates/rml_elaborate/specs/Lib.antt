pub mod Formulas
pub mod Updates
pub mod Sizes
