pub mod Printed
pub mod ValueDone
pub mod Needed
pub mod Calculated
pub mod Families
pub mod Acts
pub mod Answers
