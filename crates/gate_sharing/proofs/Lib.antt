pub mod Alls
pub mod Sharings
pub mod Making
pub mod Needing
pub mod Imaging
pub mod Absorbings
pub mod Terming
pub mod Voting
