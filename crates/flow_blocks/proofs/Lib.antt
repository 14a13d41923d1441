pub mod RowLemmas
mod WordLemmas
mod UseLemmas
pub mod ClassLemmas
mod TableLemmas
mod WaitLemmas
mod SlotLemmas
mod OrderLemmas
mod DescentLemmas
pub mod LawLemmas
pub mod ReachLemmas
pub mod ExistenceLemmas
