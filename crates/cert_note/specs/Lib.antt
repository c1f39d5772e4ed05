pub mod Words
pub mod Values
pub mod Certificate
pub mod Spelling
pub mod Reading
pub mod Refusals
pub mod SpellingLaws
pub mod ParameterLemmas
