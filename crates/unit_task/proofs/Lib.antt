pub mod Readiness
pub mod SoundTasks
pub mod Ends
pub mod Received
