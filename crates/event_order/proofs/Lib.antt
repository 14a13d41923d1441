pub mod Again
pub mod ByNames
mod Drawable
mod ItemWise
mod Least
mod Moving
mod Naming
mod Parts
mod Taken
mod Taking
mod Values
mod Walking
