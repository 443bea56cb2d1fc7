pub mod Offers
pub mod Places
pub mod Acts
pub mod Closes
pub mod DataRoom
