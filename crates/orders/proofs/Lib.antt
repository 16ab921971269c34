pub mod ReadOne
pub mod ReadAll
pub mod ReadOrders
mod Telling
