mod Digits
mod Pieces
mod Program
pub mod OneJob
pub mod Reaches
mod Lengths
