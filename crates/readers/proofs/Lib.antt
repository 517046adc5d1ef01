pub mod Asked
pub mod Rewritten
pub mod Same
