pub mod Examples
pub mod Picture
pub mod Rooms
