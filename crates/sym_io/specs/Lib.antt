pub mod Causes
pub mod ByName
pub mod Memory
