pub mod GroundForm
pub mod Passing
pub mod Measuring
pub mod Decisions
pub mod Searches
pub mod Laws
pub mod Steps
