pub mod Named
pub mod Renumbered
