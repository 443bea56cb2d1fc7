pub mod Bus
pub mod BusLaw
pub mod Opening
pub mod Reading
pub mod Reporting
pub mod Holding
