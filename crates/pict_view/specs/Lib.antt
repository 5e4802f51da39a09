pub mod View
pub mod Moved
pub mod Placed
pub mod Partners
pub mod Stepping
pub mod Right
pub mod Watching
pub mod Laws
