pub mod Bits
pub mod Masks
