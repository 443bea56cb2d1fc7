pub mod FieldLists
pub mod TurningLaws
