pub mod Beginnings
pub mod OneImport
pub mod NoImport
pub mod Reading
pub mod Once
pub mod Some
