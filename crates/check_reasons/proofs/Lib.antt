pub mod BufferPlaces
pub mod GapLemmas
pub mod KeptPlaces
pub mod RuleLemmas
