pub mod Words
pub mod Plain
pub mod Asked
pub mod Laws
