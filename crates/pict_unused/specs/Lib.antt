pub mod Items
pub mod Hints
pub mod Summing
pub mod Telling
pub mod Laws
pub mod Sights
