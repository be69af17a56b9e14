pub mod Quantifiers
pub mod Branches
