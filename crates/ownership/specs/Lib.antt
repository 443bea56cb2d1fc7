pub mod Standing
pub mod Footprint
pub mod Steps
pub mod Control
pub mod Words
pub mod Transfers
pub mod Start
