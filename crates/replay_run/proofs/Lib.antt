pub mod OneReplay
pub mod LineCallers
pub mod MadeSteps
pub mod MadeLines
