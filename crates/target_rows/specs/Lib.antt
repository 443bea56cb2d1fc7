pub mod Rigs
pub mod Calls
