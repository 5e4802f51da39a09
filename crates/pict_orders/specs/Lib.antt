pub mod Plain
pub mod Room
pub mod Settling
pub mod Found
pub mod Going
