pub mod LaidWords
pub mod Progress
pub mod BusAnswers
pub mod TenSteps
pub mod Stops
