mod Changes
mod Distinct
mod Pasts
mod Holding
mod Laws
mod Sheeting
