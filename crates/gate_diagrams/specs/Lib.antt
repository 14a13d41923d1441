pub mod Needed
pub mod NodeLimits
pub mod Drawing
pub mod Walked
pub mod Answers
pub mod Paths
pub mod ByModes
