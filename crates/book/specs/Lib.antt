pub mod Plans
pub mod History
pub mod Ledgers
pub mod Books
pub mod Receipts
pub mod Law
pub mod Sheets
