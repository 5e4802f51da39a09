pub mod Way
pub mod Tracing
