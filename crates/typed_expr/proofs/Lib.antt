mod Putting
mod Ends
mod Folding
mod Totalled
pub mod Shrinking
mod Gathering
mod Forms
mod Loops
mod SoFar
pub mod Opened
mod Arms
pub mod Kinded
pub mod Valued
pub mod Renaming
pub mod Facts
pub mod OneValue
pub mod KindsYielded
pub mod Listing
pub mod Mentioning
mod Stopping
