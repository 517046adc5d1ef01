pub mod Opening
pub mod Halves
pub mod Writing
pub mod Same
