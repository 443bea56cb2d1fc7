pub mod Examples
pub mod MoveLaws
pub mod RemainLaws
pub mod RepairLaws
pub mod ScriptMoves
