pub mod Expressions
pub mod Keeps
pub mod Members
pub mod Models
pub mod Opened
