pub mod Executions
pub mod Lines
pub mod PrintedReports
