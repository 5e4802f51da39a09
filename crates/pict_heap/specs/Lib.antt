pub mod Fields
pub mod HeapState
pub mod Layout
pub mod Packed
