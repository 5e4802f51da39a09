pub mod Subtyping
pub mod Exposing
pub mod Scopes
pub mod Shapes
pub mod Laws
