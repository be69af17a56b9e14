pub mod Normals
pub mod Leaves
