pub mod PlainFound
pub mod Parts
pub mod Formed
