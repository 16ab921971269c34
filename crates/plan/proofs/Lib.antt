pub mod Lawful
pub mod Finding
pub mod Admission
pub mod Drawings
