pub mod Demands
pub mod Firsts
pub mod Judging
