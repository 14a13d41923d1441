pub mod Telling
pub mod Valuing
pub mod Ordering
pub mod Joining
pub mod Closing
mod Marking
