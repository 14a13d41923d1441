pub mod Coherent
pub mod Exclusive
pub mod Gates
pub mod Places
