pub mod Embedding
pub mod Opening
pub mod Standing
pub mod Realising
pub mod Laws
