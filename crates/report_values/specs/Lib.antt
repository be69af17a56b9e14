pub mod ValueReading
pub mod HavocReading
