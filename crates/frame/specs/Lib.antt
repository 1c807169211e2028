pub mod Examples
pub mod Frame
pub mod Stored
