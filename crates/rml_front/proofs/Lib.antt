pub mod Phases
pub mod Unique
