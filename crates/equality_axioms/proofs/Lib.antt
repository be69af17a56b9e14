pub mod Elements
pub mod Walks
pub mod Truths
pub mod Equalities
pub mod Implications
