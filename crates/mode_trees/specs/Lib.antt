pub mod Below
pub mod Paths
pub mod Views
pub mod Ways
