pub mod Keys
pub mod Passes
pub mod Columns
pub mod Radix
pub mod ByName
