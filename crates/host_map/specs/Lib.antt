pub mod Laws
pub mod Map
pub mod Places
pub mod Regions
pub mod Writes
