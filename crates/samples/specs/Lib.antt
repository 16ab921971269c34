pub mod Randoms
pub mod Shapes
pub mod Modes
