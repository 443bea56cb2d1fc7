pub mod Ops
pub mod Assembled
pub mod Seen
pub mod SeenNames
pub mod Judging
pub mod Image
pub mod Laws
