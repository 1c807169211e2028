pub mod Bytes
pub mod Codes
pub mod Layout
