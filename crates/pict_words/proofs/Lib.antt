pub mod Lists
pub mod Shapes
pub mod Seeds
pub mod Sites
pub mod Replays
pub mod Commands
pub mod Some
