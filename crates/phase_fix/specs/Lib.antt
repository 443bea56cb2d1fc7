pub mod InScript
pub mod Moves
pub mod Remain
pub mod Repair
