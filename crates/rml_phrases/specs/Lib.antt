pub mod Language
pub mod Piece
pub mod Reading
pub mod Good
pub mod Ascending
pub mod Carries
