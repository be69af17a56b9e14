pub mod BoundedText
pub mod Laws
