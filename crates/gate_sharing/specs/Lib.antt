pub mod Simplified
pub mod Literals
pub mod Sharing
pub mod Absorbing
pub mod Known
pub mod Images
pub mod Votes
