pub mod Words
pub mod Tokens
pub mod Seen
pub mod Shapes
pub mod Reading
pub mod Lines
pub mod Guess
