pub mod Calling
pub mod Tests
