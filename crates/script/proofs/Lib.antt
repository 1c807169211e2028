pub mod Claim
pub mod Examples
pub mod FileSize
pub mod Lines
