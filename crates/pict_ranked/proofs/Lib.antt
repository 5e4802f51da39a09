pub mod Totals
pub mod Trees
pub mod Descending
pub mod Changing
pub mod Leaves
pub mod Slots
pub mod Ranks
