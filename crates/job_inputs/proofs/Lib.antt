pub mod CutLineLemmas
pub mod CutListLemmas
pub mod EventLemmas
pub mod MarkLemmas
mod Observers
pub mod PathLemmas
pub mod PieceLemmas
pub mod ReadSoFar
pub mod ScriptLemmas
pub mod VisibleLemmas
mod Words
