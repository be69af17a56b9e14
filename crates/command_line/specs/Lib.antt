pub mod Numbers
pub mod Asking
pub mod Lines
pub mod Rows
