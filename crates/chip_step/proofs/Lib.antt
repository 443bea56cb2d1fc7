pub mod Places
pub mod Frame
pub mod Made
pub mod Causes
pub mod Gives
