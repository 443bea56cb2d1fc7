pub mod KeepingLaws
pub mod OpeningLaws
pub mod Pieces
pub mod TableLaws
