pub mod Marked
pub mod Stages
pub mod Within
pub mod MarkText
pub mod Sources
pub mod Search
pub mod Laws
