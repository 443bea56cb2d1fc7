pub mod Words
pub mod Firsts
pub mod Turns
pub mod Rounds
pub mod Products
pub mod Submitters
