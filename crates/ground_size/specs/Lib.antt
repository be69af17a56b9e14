pub mod Counting
pub mod Conjoined
pub mod Sizes
pub mod Found
pub mod Laws
pub mod Walks
pub mod Leaves
pub mod Existentials
