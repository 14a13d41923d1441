mod Listing
mod SourceLines
mod MissingLemmas
mod SaidLemmas
pub mod ShortLines
pub mod YesLemmas
