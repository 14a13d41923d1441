pub mod TableLemmas
pub mod RunLemmas
pub mod NumberLemmas
pub mod FormLemmas
pub mod PieceLemmas
pub mod CutLemmas
pub mod ReadLemmas
pub mod Laws
