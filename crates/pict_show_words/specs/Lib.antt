pub mod Fields
pub mod Pending
