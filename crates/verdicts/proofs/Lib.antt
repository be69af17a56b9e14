pub mod Groups
pub mod GoalLists
pub mod Completing
pub mod Right
