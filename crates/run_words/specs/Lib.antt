pub mod Lines
pub mod Commands
pub mod CommandsInside
pub mod Jobs
pub mod JobsInside
pub mod Told
pub mod Generator
