pub mod Fields
pub mod Closed
pub mod Stamps
pub mod Entries
pub mod Partners
pub mod Nexts
pub mod Kept
pub mod Matched
pub mod Substituting
pub mod OneRun
pub mod Onward
pub mod Placing
pub mod Deeds
pub mod Everywhere
pub mod FreeRuns
mod Worked
pub mod Tabled
pub mod Replacing
