pub mod Held
pub mod Ending
