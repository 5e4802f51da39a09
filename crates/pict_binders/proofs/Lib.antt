pub mod Binding
pub mod Places
pub mod Numbers
