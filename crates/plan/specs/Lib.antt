pub mod Links
pub mod Halves
pub mod Flaws
pub mod Listed
pub mod Judging
pub mod Laws
