pub mod Matching
pub mod DeskLives
pub mod Plans
pub mod Joined
pub mod ChipCalls
pub mod JoinedRuns
pub mod BlockWords
pub mod Reports
