pub mod Answers
pub mod Index
pub mod Leaving
pub mod Seen
pub mod Gives
pub mod Faults
pub mod Blocks
