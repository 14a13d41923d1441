pub mod Agreeing
mod AssignsTell
mod BlocksInOrder
mod Chain
mod ConflictsTell
mod Counting
pub mod Faults
mod FirstReading
mod FlowCounts
mod FlowsListed
mod Growing
mod KnownInEnd
pub mod LeastByTable
mod Meant
mod ModesTell
mod OperandsTell
mod OrderOfEntries
pub mod Rounds
mod RoundsHold
mod StepsOrdered
mod TableOrdered
mod TableTells
mod TermsTell
mod TotalsTell
