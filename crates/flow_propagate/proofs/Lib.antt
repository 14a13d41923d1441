pub mod Numbered
pub mod NamedPairs
pub mod ReaderPairs
pub mod FlowUses
pub mod Reaching
pub mod Putting
pub mod Starting
pub mod Searching
pub mod Values
pub mod Totalling
pub mod Missing
pub mod Applying
pub mod Looking
pub mod PairRuns
pub mod Worklists
pub mod Determining
pub mod Marking
pub mod Hearing
pub mod Written
mod Others
mod RowStarting
