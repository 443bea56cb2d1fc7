pub mod Unit
pub mod Performing
pub mod Losing
