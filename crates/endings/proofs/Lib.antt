pub mod EndingLemmas
pub mod EscapedLemmas
pub mod WhyLemmas
