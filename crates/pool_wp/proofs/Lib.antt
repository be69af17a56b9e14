pub mod Nodes
pub mod Allowed
pub mod Before
pub mod Backward
mod Own
