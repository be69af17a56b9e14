pub mod NodeText
pub mod EdgeText
pub mod RowText
pub mod GraphText
pub mod AnswerGraphs
