pub mod AcceptedLemmas
pub mod CommandLemmas
pub mod Corollaries
pub mod MonLemmas
pub mod TalkLemmas
pub mod TrialLemmas
pub mod WhyLemmas
