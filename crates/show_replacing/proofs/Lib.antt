pub mod Replaceable
