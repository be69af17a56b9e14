pub mod Numbers
pub mod Naming
pub mod Sets
pub mod Effects
pub mod Logs
pub mod Lists
