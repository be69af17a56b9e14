pub mod Axioms
pub mod Walk
pub mod Laws
