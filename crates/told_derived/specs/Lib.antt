pub mod Definitions
pub mod DerivedText
