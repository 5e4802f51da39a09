pub mod Guarding
pub mod Rooms
