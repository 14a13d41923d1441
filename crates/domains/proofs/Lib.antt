pub mod Members
pub mod Order
pub mod Same
mod Ranks
pub mod Domains
pub mod SameDomains
