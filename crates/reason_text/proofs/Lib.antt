mod Pieces
mod Marks
mod ToldLines
pub mod Source
