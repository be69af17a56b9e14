pub mod ReadBack
pub mod Rows
pub mod Leaders
pub mod Classes
pub mod Tables
pub mod Laws
