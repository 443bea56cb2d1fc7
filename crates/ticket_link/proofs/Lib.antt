pub mod Tags
pub mod Tasks
pub mod Others
pub mod IdleCalls
pub mod WorkCalls
pub mod Pointers
pub mod Sessions
