pub mod Trees
pub mod Growing
pub mod Rows
pub mod Shapes
pub mod Facts
pub mod Pools
