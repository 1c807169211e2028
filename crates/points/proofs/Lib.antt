pub mod Coded
pub mod Codes
