pub mod Framed
pub mod Writing
pub mod Keeping
pub mod Blocks
pub mod Holding
pub mod Parts
pub mod Laws
