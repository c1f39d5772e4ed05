pub mod ChangedItems
pub mod Lengthened
