pub mod BitLemmas
pub mod RowLemmas
pub mod HoldLemmas
pub mod ListedLemmas
pub mod TruthLemmas
pub mod LawLemmas
pub mod LookupLemmas
