pub mod Closed
pub mod Crossing
pub mod Openings
pub mod Instantiating
pub mod Forms
pub mod Above
pub mod Canonical
pub mod Performing
pub mod Meeting
pub mod TypesPut
pub mod ValuesPut
pub mod Receiving
pub mod Rows
pub mod Within
mod Conclusions
mod Shaped
