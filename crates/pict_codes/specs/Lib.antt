pub mod Codes
pub mod Failing
pub mod Laws
