mod Joins
mod Cutting
pub mod Held
mod Withouts
mod Havings
mod Minimals
mod Passing
