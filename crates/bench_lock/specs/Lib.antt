pub mod Log
pub mod Rule
pub mod Stepped
pub mod Views
