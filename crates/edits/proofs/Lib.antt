pub mod Runs
pub mod Scans
pub mod Shifts
pub mod Finds
