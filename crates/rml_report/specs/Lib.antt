pub mod Words
pub mod TableText
pub mod HavocText
pub mod ReportText
pub mod Reports
pub mod Laws
