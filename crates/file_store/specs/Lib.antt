pub mod Memory
pub mod SourceLemmas
pub mod Sources
pub mod Store
pub mod System
pub mod Written
