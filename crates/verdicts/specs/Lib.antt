pub mod Answers
pub mod Earliest
pub mod Laws
