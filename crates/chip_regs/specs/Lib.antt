pub mod Registers
pub mod Bytes
