pub mod Ascending
mod Counting
mod Followed
mod Gathering
pub mod ImageRounds
mod Knowing
mod Readers
mod ReasonList
mod RestRows
pub mod RoundRounding
pub mod RoundStanding
pub mod RoundTotals
mod Rounding
mod SeenLists
mod Standing
pub mod Sufficing
mod Totals
pub mod Marking
pub mod Placing
