pub mod LogState
pub mod Counts
