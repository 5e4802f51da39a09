pub mod Steps
pub mod Apart
pub mod FreeRuns
pub mod Order
pub mod Natural
pub mod Readings
pub mod Reductions
pub mod Inert
pub mod Finished
pub mod Renaming
pub mod Alike
pub mod Firing
pub mod Rebuilding
pub mod Exhausting
pub mod Reflecting
pub mod Reaching
mod Examples
