pub mod JobLemmas
pub mod ParamLemmas
