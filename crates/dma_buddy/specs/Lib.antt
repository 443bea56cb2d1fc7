pub mod Bits
pub mod Chunks
pub mod Kept
pub mod Laws
pub mod Lists
pub mod Marks
pub mod Regions
