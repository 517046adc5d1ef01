pub mod Reached
pub mod Room
