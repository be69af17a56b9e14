pub mod Numbers
pub mod Clauses
pub mod Meaning
pub mod Tables
pub mod Machine
pub mod Boards
pub mod Stands
