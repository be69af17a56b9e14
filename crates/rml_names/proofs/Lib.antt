pub mod Tables
pub mod Binders
pub mod NewNames
