pub mod Picked
pub mod Laws
