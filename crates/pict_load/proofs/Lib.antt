pub mod Drawing
pub mod Short
pub mod Counting
pub mod Lines
