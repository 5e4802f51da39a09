pub mod Gentle
