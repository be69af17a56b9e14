pub mod BlockPaths
