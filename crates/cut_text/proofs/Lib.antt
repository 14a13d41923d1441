pub mod Answering
mod EdgeEvents
mod Fault
mod Firing
pub mod FlatLines
pub mod Edges
mod ForestPieces
pub mod InSystem
pub mod Known
mod LiveThere
pub mod Pieces
pub mod Relabelled
mod SameLines
pub mod Source
pub mod TableLemmas
pub mod UpToOrder
