pub mod Numbers
pub mod Seeking
