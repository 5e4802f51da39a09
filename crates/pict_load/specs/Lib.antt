pub mod Rings
pub mod Text
pub mod Summary
pub mod Counted
