pub mod Box
pub mod Drawn
pub mod Examples
pub mod Extremes
