pub mod Grammar
pub mod Shorter
pub mod Whole
pub mod Texts
pub mod Within
pub mod Shapes
pub mod Walk
pub mod Order
