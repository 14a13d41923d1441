pub mod Lines
pub mod Sizes
pub mod Kept
pub mod Listing
pub mod Gives
