pub mod TypingLaws
pub mod SourceLaws
