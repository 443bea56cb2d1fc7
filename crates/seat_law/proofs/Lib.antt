pub mod ListWorlds
pub mod Others
pub mod Sizes
pub mod Places
pub mod Answered
pub mod Refusals
