pub mod LineLemmas
pub mod FileLemmas
mod LogLemmas
pub mod JobLemmas
pub mod ElaborateLemmas
pub mod PassLemmas
pub mod ForestLemmas
pub mod TableLemmas
pub mod TellLemmas
pub mod CutLemmas
pub mod DrawnLemmas
