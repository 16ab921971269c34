pub mod Meshes
pub mod Networks
pub mod Grounds
pub mod Raising
