pub mod Turns
pub mod Numerals
pub mod FirstValue
pub mod Lines
pub mod Steps
pub mod ItemLists
pub mod KeyLemmas
pub mod Digits
pub mod Quoted
pub mod FirstToken
pub mod TokensLeft
pub mod BlockItems
pub mod EightDigits
mod DigitRuns
pub mod KeyWords
