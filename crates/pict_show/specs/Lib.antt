pub mod Values
pub mod Pending
