pub mod NumberText
pub mod CauseWords
pub mod InText
pub mod ExecutionText
pub mod ToldText
