pub mod Unique
pub mod Strings
pub mod Numbers
pub mod Labels
pub mod Bares
pub mod Literals
pub mod Records
pub mod Growing
pub mod Kept
pub mod Gained
pub mod Fields
pub mod Steps
pub mod Shown
mod Rows
pub mod Ordered
pub mod ReadBack
pub mod Ends
