pub mod Laws
pub mod Ordered
pub mod Renumbered
pub mod Taking
pub mod Visiting
