pub mod GoalClauses
pub mod Laws
