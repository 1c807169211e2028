pub mod Claim
pub mod Examples
pub mod Symbols
