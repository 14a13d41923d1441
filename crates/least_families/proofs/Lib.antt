pub mod Covering
pub mod Cutting
pub mod Held
pub mod Least
pub mod Steps
pub mod Upper
