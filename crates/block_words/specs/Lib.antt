pub mod KeptWords
pub mod Marks
pub mod Commands
pub mod LiveWords
pub mod EndedWords
pub mod EndedReports
pub mod ReportedRuns
pub mod EndingSteps
