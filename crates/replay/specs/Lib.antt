pub mod Calls
pub mod Claim
pub mod Examples
