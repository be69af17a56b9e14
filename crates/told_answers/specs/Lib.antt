pub mod RunsText
pub mod Laws
pub mod SubsetText
pub mod ReasonsText
