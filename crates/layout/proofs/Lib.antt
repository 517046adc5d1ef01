pub mod Fills
pub mod Counts
pub mod Spans
pub mod KeyBounds
pub mod Longest
pub mod Taken
