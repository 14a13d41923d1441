pub mod Stages
mod Units
mod Reached
mod Expanding
mod System
pub mod Chain
pub mod Told
