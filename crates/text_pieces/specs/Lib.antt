pub mod WayLabels
pub mod Faults
