pub mod Deciding
pub mod Exact
pub mod FirstFault
pub mod Leaving
pub mod Placed
pub mod Standing
pub mod Walks
