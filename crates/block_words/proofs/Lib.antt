mod KeptWords
pub mod RunSteps
mod Marks
mod Turned
pub mod Commands
mod LiveWords
mod WrittenMemory
mod EndedBlocks
mod HeldBuffers
mod EndedTickets
mod EndedDesks
mod EndedReports
mod PlainSteps
mod ReportedRuns
mod SenseFlags
mod OpenSenses
mod Endings
mod EndingSteps
