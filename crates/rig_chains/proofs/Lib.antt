pub mod Blocks
pub mod ChainLaws
pub mod FindingLaws
pub mod LaidLaws
pub mod LaidChains
