pub mod Replayed
pub mod Files
pub mod Plain
pub mod Laws
pub mod Least
pub mod Turns
pub mod Words
pub mod Verdicts
