pub mod Keeping
pub mod Stepping
pub mod Outputs
pub mod Answering
pub mod Numbers
mod Whole
