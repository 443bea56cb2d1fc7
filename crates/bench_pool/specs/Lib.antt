pub mod Submits
pub mod Workers
