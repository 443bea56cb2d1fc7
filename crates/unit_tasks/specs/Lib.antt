pub mod Queue
pub mod Units
pub mod Resets
