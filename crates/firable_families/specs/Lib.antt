pub mod Firable
pub mod FirableInside
pub mod Entries
pub mod Walk
