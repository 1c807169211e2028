pub mod Rays
pub mod Rows
pub mod Nearest
