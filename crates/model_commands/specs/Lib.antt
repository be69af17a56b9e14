pub mod Check
pub mod Houdini
pub mod Bmc
pub mod Sample
