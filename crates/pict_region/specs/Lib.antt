pub mod Chain
pub mod Layout
pub mod RegionState
pub mod Values
