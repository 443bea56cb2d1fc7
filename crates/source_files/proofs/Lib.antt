pub mod OneAnswer
mod Back
