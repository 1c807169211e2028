pub mod Encoding
pub mod Line
pub mod Text
