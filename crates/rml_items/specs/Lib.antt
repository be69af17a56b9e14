pub mod Items
pub mod Answering
pub mod Answered
pub mod Walking
pub mod Progress
pub mod Laws
