pub mod Heights
pub mod Ways
pub mod Sends
pub mod Waits
pub mod States
pub mod Starts
pub mod Runs
