pub mod Once
pub mod RelatedBuses
pub mod Bytes
pub mod Words
pub mod StepWrites
pub mod StepReads
