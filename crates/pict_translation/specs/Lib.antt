pub mod Placed
pub mod Arguments
pub mod Patterns
pub mod Simple
pub mod Translation
pub mod Depth
pub mod Laws
pub mod Within
