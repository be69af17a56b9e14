pub mod Memos
pub mod Walks
pub mod Nodes
pub mod Staying
pub mod Replacements
pub mod Mentions
