pub mod Taking
pub mod Becoming
