pub mod Numbering
pub mod Rebuilding
pub mod Agreeing
pub mod Levels
pub mod Framed
pub mod Closings
pub mod Lines
mod Rows
