pub mod Answers
pub mod Following
pub mod Bytes
pub mod Words
pub mod Touched
pub mod Leaving
pub mod Reading
