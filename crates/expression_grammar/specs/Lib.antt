pub mod Words
pub mod Paths
pub mod Expressions
pub mod Results
pub mod Chains
pub mod Texts
pub mod Parts
