pub mod Looking
pub mod Alike
pub mod Patterns
pub mod Same
