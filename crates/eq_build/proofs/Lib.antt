pub mod Growing
pub mod Same
pub mod Renaming
mod Grouping
pub mod Places
mod Rising
pub mod Stopping
pub mod Reading
pub mod Threading
mod Operands
mod Arms
mod GroupsRise
pub mod EntriesTell
pub mod FormsTell
pub mod BuildsTell
pub mod Never
pub mod Existing
pub mod BuildsOrdered
pub mod Blocks
pub mod TableSame
pub mod Uses
pub mod TableExisting
