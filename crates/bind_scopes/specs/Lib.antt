pub mod Indexed
pub mod Members
pub mod Naming
pub mod Scopes
pub mod Searching
pub mod Sites
