pub mod Faults
pub mod Records
pub mod Readings
pub mod Values
pub mod Meanings
pub mod Surveys
pub mod Lines
pub mod Runs
