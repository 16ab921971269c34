pub mod Nearness
mod Grounds
