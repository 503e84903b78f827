mod Changes
mod Lookups
mod Maps
mod Places
pub mod Values
