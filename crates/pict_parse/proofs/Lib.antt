pub mod Exact
pub mod Imports
pub mod Loop
pub mod Others
