pub mod Held
pub mod Halves
pub mod Kept
pub mod Least
