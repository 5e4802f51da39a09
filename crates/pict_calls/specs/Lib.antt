pub mod Calling
pub mod Finishing
