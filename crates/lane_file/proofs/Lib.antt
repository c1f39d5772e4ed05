mod Bytes
mod Steps
mod Chosen
mod Groups
mod Masks
mod Calls
mod AnyLemmas
