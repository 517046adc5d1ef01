pub mod Model
pub mod Tests
pub mod Checks
