pub mod Lookups
pub mod Places
pub mod Written
pub mod Steps
