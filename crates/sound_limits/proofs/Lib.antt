pub mod Scans
pub mod Chains
pub mod Listed
pub mod Rising
pub mod Counts
