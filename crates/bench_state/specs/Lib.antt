pub mod States
pub mod Held
pub mod Reading
pub mod Counting
pub mod Driving
pub mod Making
pub mod Building
pub mod LastLines
