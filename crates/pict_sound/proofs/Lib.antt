pub mod NeverWrong
pub mod Programs
mod TypingExamples
