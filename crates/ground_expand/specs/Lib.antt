pub mod Instance
pub mod Scopes
pub mod Groundable
pub mod Laws
