pub mod Arcs
pub mod Totals
