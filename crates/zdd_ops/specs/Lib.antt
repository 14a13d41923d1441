pub mod Cuts
pub mod Operations
