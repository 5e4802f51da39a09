pub mod Rules
pub mod Told
pub mod Touched
pub mod Steps
pub mod Lines
