pub mod Ways
pub mod Ranges
pub mod Paths
