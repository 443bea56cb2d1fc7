pub mod Sources
pub mod Images
pub mod FileListing
