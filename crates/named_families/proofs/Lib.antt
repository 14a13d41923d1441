pub mod Names
pub mod Named
pub mod Parts
pub mod Halves
