pub mod Spans
pub mod Empty
pub mod Rising
pub mod Greatest
