mod Acting
pub mod Firing
mod Growing
mod Heights
mod Indexed
pub mod Lists
mod Meeting
mod Neighbours
mod Pairing
mod Placing
pub mod Renewing
pub mod SameReadings
mod Settling
mod Stepping
mod Taking
mod Turned
pub mod Writing
