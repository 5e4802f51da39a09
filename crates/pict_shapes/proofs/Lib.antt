pub mod Found
pub mod Taken
pub mod Matched
pub mod Having
