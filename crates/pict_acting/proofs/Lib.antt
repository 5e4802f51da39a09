pub mod Bounding
pub mod CallNodes
pub mod CallSteps
pub mod WaitSteps
