pub mod FilledRows
pub mod LineLemmas
pub mod ProgramLemmas
