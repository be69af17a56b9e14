pub mod Sharing
pub mod Tables
