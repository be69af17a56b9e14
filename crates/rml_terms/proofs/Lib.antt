pub mod Grammar
pub mod Shorter
pub mod Walk
pub mod Within
pub mod Order
pub mod Shapes
