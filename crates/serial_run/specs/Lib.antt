pub mod Generated
pub mod Histories
