pub mod MoveLemmas
pub mod NumberLemmas
pub mod WordLemmas
pub mod CommandLemmas
pub mod TextLemmas
pub mod ViewLemmas
