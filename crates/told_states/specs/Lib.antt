pub mod SymbolText
pub mod Labels
pub mod ElementText
pub mod Alike
pub mod BeforeText
pub mod ChangeText
pub mod TableText
pub mod Laws
