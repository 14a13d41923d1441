pub mod Alike
pub mod Answering
pub mod Asking
pub mod CausesOfJobs
pub mod CausesOfTexts
pub mod Commanded
pub mod Completing
pub mod Cuts
pub mod Demanding
pub mod Domains
pub mod Enough
pub mod Expressions
pub mod Findings
pub mod Flats
mod KnownFiles
pub mod Labels
pub mod Lines
mod LogsApart
mod LogsTold
pub mod ManyCuts
pub mod Modules
pub mod Observers
pub mod Orders
pub mod OneSource
pub mod Plans
pub mod Readings
mod RunsAsCalls
pub mod Scripts
pub mod Sources
pub mod Stages
pub mod Tabled
pub mod Telling
pub mod Unread
mod ReadyAsking
mod Carrying
mod Conflicts
mod ReadyDemanding
mod Families
mod ReadyFlats
mod Inputs
mod ReadyLabels
mod Lists
mod ReadyModules
mod Runs
mod Shared
mod Tables
mod ReadyTelling
mod Turned
