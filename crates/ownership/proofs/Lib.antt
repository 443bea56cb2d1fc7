pub mod Instructions
pub mod Steps
pub mod Footprint
pub mod Control
pub mod Words
pub mod Transfers
pub mod Start
