pub mod Sizes
pub mod Turning
pub mod Resting
pub mod Telling
pub mod Requests
pub mod Onward
pub mod Begun
