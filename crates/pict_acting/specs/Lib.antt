pub mod Bounds
pub mod Chain
pub mod Opening
pub mod Operands
