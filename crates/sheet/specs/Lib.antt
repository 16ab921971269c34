pub mod Routes
pub mod Plans
pub mod Readings
pub mod Sheets
pub mod Tellings
