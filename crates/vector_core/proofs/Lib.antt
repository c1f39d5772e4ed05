pub mod Destinations
pub mod Extensions
pub mod Inside
pub mod Kept
pub mod KeptSteps
pub mod Lengths
pub mod Moved
pub mod Numbers
