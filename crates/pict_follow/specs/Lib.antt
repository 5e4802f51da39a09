pub mod Classes
pub mod Follow
