pub mod Arcs
pub mod Lists
pub mod Jobs
pub mod Totals
pub mod Texts
