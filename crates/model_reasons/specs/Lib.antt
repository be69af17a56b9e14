pub mod Reasons
pub mod Idle
pub mod Laws
