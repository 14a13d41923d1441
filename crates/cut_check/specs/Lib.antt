pub mod Verdicts
pub mod VerdictsInside
pub mod Flat
pub mod Rows
pub mod Truths
pub mod LineSets
