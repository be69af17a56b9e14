pub mod Spans
pub mod TableValue
pub mod TableState
pub mod Checked
pub mod CheckerState
pub mod Whole
pub mod Written
