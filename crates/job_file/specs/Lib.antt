pub mod Job
pub mod Keys
pub mod Needs
pub mod Refusal
