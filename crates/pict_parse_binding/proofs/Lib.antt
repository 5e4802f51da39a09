pub mod PatternOthers
pub mod TypeOthers
