pub mod Families
pub mod Folding
pub mod Listing
pub mod OnPaths
pub mod Pairs
pub mod Placing
