pub mod Sizes
pub mod SizesInside
pub mod Bounds
pub mod Elaborating
pub mod Flat
pub mod Making
pub mod Placing
