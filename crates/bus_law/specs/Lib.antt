pub mod Bus
pub mod Rooms
pub mod Choices
pub mod Bytes
pub mod Reselections
pub mod Attention
pub mod Moves
pub mod Laws
