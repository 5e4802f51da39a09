pub mod Asked
pub mod Held
pub mod Delivered
pub mod Told
pub mod Stepped
pub mod Ordered
pub mod Reasoned
