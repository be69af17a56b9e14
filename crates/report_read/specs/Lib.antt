pub mod LineReading
pub mod Got
pub mod Reading
pub mod Laws
pub mod Printing
