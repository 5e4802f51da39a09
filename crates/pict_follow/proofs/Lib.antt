pub mod Goes
pub mod Said
pub mod KeepsTypes
pub mod KeepsValues
pub mod Alike
pub mod Last
pub mod Judged
pub mod Tried
