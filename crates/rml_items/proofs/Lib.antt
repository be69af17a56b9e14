pub mod SortLists
pub mod Sorted
pub mod ItemLists
pub mod Stays
pub mod Ordered
pub mod Faultless
