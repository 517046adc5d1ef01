pub mod Apart
pub mod Names
pub mod Round
pub mod Again
pub mod Cases
pub mod Mappable
pub mod Pages
pub mod Promises
