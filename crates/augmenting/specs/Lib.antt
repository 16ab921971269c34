pub mod Pairs
pub mod Sending
pub mod Sides
pub mod Runs
