pub mod Shelves
pub mod Reading
pub mod Loading
pub mod Laws
