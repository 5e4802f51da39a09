pub mod Words
pub mod Rests
pub mod Pieces
