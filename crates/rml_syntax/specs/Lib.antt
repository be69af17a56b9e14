pub mod Tree
pub mod Grammar
pub mod Faults
pub mod Reading
pub mod Within
pub mod Shape
pub mod Places
