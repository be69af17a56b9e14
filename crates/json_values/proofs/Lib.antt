mod Plain
mod Loops
