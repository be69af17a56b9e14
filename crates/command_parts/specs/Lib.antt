pub mod Saying
pub mod Faults
pub mod ModelTexts
pub mod Limits
