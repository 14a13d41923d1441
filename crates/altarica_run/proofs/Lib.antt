pub mod GivenLemmas
pub mod GatherLemmas
pub mod CommandLemmas
pub mod EndLemmas
pub mod ReadingLemmas
pub mod FollowLemmas
pub mod LawLemmas
mod ListingLemmas
pub mod ExplainLemmas
pub mod NodeLemmas
mod FindingLemmas
pub mod CheckLemmas
