pub mod Tickets
pub mod Senses
pub mod Fates
pub mod Linked
pub mod Moves
pub mod Histories
pub mod Kept
pub mod Laws
