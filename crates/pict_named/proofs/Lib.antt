pub mod Standing
pub mod Reading
pub mod Trees
pub mod Types
pub mod Values
pub mod Defining
pub mod Targets
