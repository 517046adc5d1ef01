pub mod Scans
pub mod Orders
pub mod Keys
