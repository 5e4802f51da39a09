pub mod Lines
pub mod Expanding
pub mod Own
pub mod Origins
pub mod PatternAsks
pub mod Scoping
