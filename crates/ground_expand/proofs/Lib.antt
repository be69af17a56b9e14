pub mod Known
pub mod Within
pub mod Below
pub mod Instances
pub mod Turns
