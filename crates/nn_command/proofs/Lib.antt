pub mod Arguments
pub mod Served
pub mod Beside
