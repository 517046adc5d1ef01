pub mod Spelling
pub mod Putting
pub mod Digits
pub mod Back
pub mod Cases
pub mod Fronts
