pub mod Bodies
pub mod Inside
pub mod Plans
pub mod Rooms
pub mod Rows
