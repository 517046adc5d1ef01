pub mod Columns
pub mod Denoted
pub mod Allowed
pub mod Starting
