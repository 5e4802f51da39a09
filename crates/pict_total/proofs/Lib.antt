pub mod Judged
pub mod Choices
pub mod Words
pub mod Marks
pub mod Literals
pub mod Cuts
