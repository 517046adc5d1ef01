pub mod Going
pub mod Stepping
pub mod Moved
pub mod Keys
pub mod Emptying
pub mod Settling
