pub mod Counted
pub mod Existentials
pub mod Instances
