pub mod Order
pub mod Firing
pub mod Arranging
pub mod Sizing
pub mod Walking
pub mod Growing
pub mod Placing
pub mod Going
