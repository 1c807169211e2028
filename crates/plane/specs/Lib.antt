pub mod Box
pub mod Code
pub mod Coordinate
pub mod Edge
pub mod Places
pub mod Point
pub mod Stored
