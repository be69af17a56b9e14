mod Words
mod Declared
mod Naming
