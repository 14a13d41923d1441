pub mod Nodes
pub mod Settled
pub mod Unfolding
pub mod MadeTrees
pub mod Values
pub mod InForce
pub mod SettingPlaces
