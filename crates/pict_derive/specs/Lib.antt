pub mod Held
pub mod Layers
pub mod Built
