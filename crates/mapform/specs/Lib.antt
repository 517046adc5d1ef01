pub mod Entries
pub mod Maps
pub mod Reading
pub mod Cases
