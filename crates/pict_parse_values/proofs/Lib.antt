pub mod Others
pub mod Behind
