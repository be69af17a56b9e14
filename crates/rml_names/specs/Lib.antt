pub mod Vocabulary
pub mod Meanings
pub mod Scopes
pub mod Growth
pub mod Drafts
pub mod Sound
pub mod Nesting
