pub mod Nesting
pub mod Turns
pub mod Tuples
pub mod Extents
