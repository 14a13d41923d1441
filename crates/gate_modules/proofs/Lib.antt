mod Sections
mod Numbers
mod Answering
mod Tables
mod Splitting
pub mod Exchange
mod Criterion
mod Entering
mod Parting
mod Deciding
mod Once
mod Forming
mod Walking
mod Choosing
mod Choices
pub mod Standing
