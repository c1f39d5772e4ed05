pub mod Lists
pub mod StartRanges
