pub mod Arrow
pub mod Claim
