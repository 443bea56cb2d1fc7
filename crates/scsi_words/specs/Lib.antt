pub mod Phases
pub mod Messages
pub mod Statuses
