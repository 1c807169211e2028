pub mod Claim
pub mod Elements
pub mod Examples
pub mod Rooms
