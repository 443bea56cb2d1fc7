pub mod Targets
pub mod Laws
pub mod Tickets
pub mod Needs
pub mod TicketLaws
pub mod Rooms
pub mod BusResets
