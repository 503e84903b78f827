pub mod Chunks
pub mod Lends
pub mod Values
pub mod ValuesRows
pub mod formers
