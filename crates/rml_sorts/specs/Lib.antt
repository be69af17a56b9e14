pub mod Commands
pub mod Listed
pub mod Sizes
pub mod Items
pub mod Sound
pub mod Laws
