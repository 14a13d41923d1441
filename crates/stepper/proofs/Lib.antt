pub mod Totals
pub mod Kept
mod Growing
mod Going
