pub mod Plain
pub mod Alike
pub mod Taking
