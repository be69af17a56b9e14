pub mod ClausesView
pub mod Extent
pub mod Levels
pub mod Nothing
