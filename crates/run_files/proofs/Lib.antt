pub mod SameRecords
pub mod OneReading
