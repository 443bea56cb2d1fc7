pub mod LineLaws
pub mod Givings
pub mod Fields
pub mod Answered
pub mod OneReading
pub mod SomeAnswer
pub mod SomeReading
