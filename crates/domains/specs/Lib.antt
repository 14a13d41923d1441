pub mod Values
pub mod Domains
pub mod DomainsInside
pub mod Same
pub mod SameInside
