pub mod Ahead
pub mod Bytes
pub mod Spelling
pub mod Keys
pub mod SpellingRows
pub mod Words
