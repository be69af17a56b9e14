pub mod GoalPassing
pub mod GoalDecisions
pub mod WithConstants
pub mod Restricted
pub mod Laws
pub mod Costs
