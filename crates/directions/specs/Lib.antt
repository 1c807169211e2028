pub mod Directions
pub mod Examples
