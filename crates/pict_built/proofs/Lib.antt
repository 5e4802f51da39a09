pub mod Choices
pub mod Labels
pub mod Deciding
pub mod Alike
pub mod Written
pub mod Sized
pub mod Back
