pub mod Chains
pub mod Stores
pub mod Prefixes
pub mod Frees
pub mod Calls
pub mod Uses
pub mod Counts
pub mod Pairs
