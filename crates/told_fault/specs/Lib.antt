pub mod Diagnostics
pub mod Hints
pub mod Readings
