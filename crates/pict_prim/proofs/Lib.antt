pub mod Quotients
pub mod Counted
pub mod SameNumbers
pub mod Shapes
pub mod Bases
pub mod Needs
