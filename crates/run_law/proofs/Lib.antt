pub mod Longer
pub mod SerialRuns
pub mod Rows
