pub mod Running
pub mod OneRun
pub mod Picking
