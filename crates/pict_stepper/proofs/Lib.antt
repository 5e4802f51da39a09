pub mod Rows
pub mod Touched
pub mod Putting
pub mod Turns
pub mod Following
pub mod Writing
