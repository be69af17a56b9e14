pub mod Tree
pub mod Grammar
pub mod Reading
pub mod Within
pub mod Shape
pub mod Places
pub mod Laws
