pub mod Delivering
pub mod Telling
pub mod Stepping
pub mod Filling
