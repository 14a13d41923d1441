pub mod Entering
mod Forests
mod Growing
mod Judging
pub mod Labels
pub mod Leading
pub mod Listing
pub mod Naming
pub mod UnitShowing
pub mod Units
pub mod Values
pub mod Ways
