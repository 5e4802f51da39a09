pub mod Phrases
pub mod Extents
pub mod Binders
pub mod Worked
pub mod Laws
