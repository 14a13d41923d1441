pub mod Definite
pub mod Findings
pub mod Listings
pub mod Named
pub mod Runs
pub mod Told
pub mod Ready
