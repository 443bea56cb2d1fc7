pub mod Runs
pub mod SameWorks
pub mod OneResults
pub mod Replayed
