pub mod Answers
pub mod Claim
pub mod Pitch
pub mod Quotient
