pub mod Because
pub mod Bytes
pub mod Lists
