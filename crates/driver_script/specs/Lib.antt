pub mod Laws
pub mod Moves
pub mod Printed
pub mod Script
