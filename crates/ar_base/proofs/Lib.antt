pub mod Standing
pub mod Items
pub mod Sets
pub mod Few
pub mod Comparing
pub mod Truths
pub mod Results
pub mod Lines
pub mod Fronts
pub mod Stages
mod Tables
pub mod Counting
mod Firsts
pub mod PairRuns
