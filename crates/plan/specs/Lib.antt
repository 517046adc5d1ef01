pub mod Turns
pub mod Courses
