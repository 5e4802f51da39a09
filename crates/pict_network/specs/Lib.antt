pub mod Network
pub mod Events
pub mod Invariant
pub mod Runs
pub mod Laws
pub mod SiteView
