pub mod Slots
pub mod Shown
pub mod Lists
pub mod Records
pub mod Rebound
pub mod Growing
