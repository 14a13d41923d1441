pub mod Added
mod Allowing
mod Assigning
mod Ending
mod FactsAt
mod FirstStates
mod Gathering
mod Keeping
mod Leading
mod LeastStates
mod LeastVariables
mod Marking
mod NamesNumbered
mod Noting
mod Reaching
pub mod Reading
mod Sorting
mod Usable
