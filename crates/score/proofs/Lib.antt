pub mod Bounds
pub mod Gains
pub mod Nearby
pub mod Crossing
pub mod Geometry
pub mod TreeKeys
