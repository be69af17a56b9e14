pub mod Nesting
pub mod Judged
