pub mod InRows
pub mod Dues
pub mod Wells
pub mod Lookups
pub mod Prefixes
pub mod Moves
pub mod Trees
pub mod Utf8Names
pub mod Equals
pub mod Logs
pub mod Limits
pub mod Touches
pub mod TouchedEdits
pub mod Untouched
pub mod Members
pub mod Events
pub mod Sent
pub mod Items
pub mod Had
pub mod Places
pub mod Unpassed
pub mod Shown
pub mod LastDone
pub mod Pictures
pub mod Ids
pub mod Whole
pub mod Orders
pub mod Standings
mod Profiles
mod Kept
mod Parts
