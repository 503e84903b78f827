pub mod Firsts
pub mod Cuts
