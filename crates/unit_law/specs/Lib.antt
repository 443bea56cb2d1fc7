pub mod Request
pub mod Log
pub mod Report
pub mod Laws
