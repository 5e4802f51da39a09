pub mod Lines
pub mod Readable
pub mod Plain
pub mod Reading
pub mod Found
pub mod Ordered
pub mod Laws
