pub mod Demands
pub mod First
pub mod Faults
pub mod Search
pub mod Laws
