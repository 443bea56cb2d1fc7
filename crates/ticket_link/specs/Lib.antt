pub mod Tags
pub mod CallMoves
pub mod WorkCalls
pub mod Pointers
pub mod Laws
pub mod Sessions
