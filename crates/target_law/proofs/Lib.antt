pub mod Rigs
pub mod Beginnings
pub mod Rooms
pub mod ResetRooms
pub mod TagLists
pub mod Tags
