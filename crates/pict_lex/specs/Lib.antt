pub mod Mark
pub mod Due
pub mod Scan
pub mod Number
pub mod Bracket
pub mod Lex
pub mod Steps
