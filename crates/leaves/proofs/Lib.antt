pub mod Leaves
pub mod Bounds
pub mod Again
pub mod Parts
pub mod Room
