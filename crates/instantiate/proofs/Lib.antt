pub mod Domained
pub mod InForce
pub mod Joined
pub mod Named
pub mod Noded
pub mod OneName
pub mod Parametered
pub mod Ruled
mod Depth
mod Dropped
mod PlacesTold
mod Upward
