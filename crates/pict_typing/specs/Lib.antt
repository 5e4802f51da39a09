pub mod Erasing
pub mod Worlds
pub mod Values
pub mod Opening
pub mod Processes
pub mod Instantiating
pub mod PrimitiveShapes
pub mod Laws
