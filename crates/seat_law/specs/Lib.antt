pub mod Worlds
pub mod Standing
pub mod Outcomes
pub mod Laws
