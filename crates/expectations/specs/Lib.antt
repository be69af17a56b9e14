pub mod Expectations
pub mod Text
pub mod Trying
