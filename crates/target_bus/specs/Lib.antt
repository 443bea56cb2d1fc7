pub mod Fields
pub mod Candidates
pub mod Rooms
pub mod Live
pub mod LiveLaw
