pub mod Numbers
pub mod Own
pub mod Seatwise
pub mod SeatSteps
pub mod Keeps
pub mod OwnedNumbers
