pub mod Tests
pub mod Lying
pub mod Weights
