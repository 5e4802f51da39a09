pub mod Alone
pub mod Explored
pub mod Laws
