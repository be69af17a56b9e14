pub mod Lrat
pub mod Emit
pub mod Evidence
