pub mod FirstOfName
pub mod BoundedReads
