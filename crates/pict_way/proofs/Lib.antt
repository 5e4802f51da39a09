pub mod Writing
pub mod Tracing
pub mod Answering
