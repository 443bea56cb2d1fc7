pub mod Kept
pub mod Held
pub mod Stages
pub mod StageSets
pub mod LastTickets
pub mod Conditions
