pub mod Amounts
pub mod Blocking
pub mod Runs
