pub mod MapLaws
pub mod WriteLaws
