pub mod Blocks
pub mod BlocksInside
pub mod Bits
pub mod Table
pub mod Waits
pub mod Slots
