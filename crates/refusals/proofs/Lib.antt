pub mod Firsts
pub mod Known
pub mod Found
pub mod Answered
