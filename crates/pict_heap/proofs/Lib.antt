pub mod Values
pub mod Growth
pub mod Look
pub mod Pairs
pub mod Index
pub mod Records
pub mod Rooms
