pub mod Gain
pub mod Prepared
pub mod Length
