pub mod Claim
pub mod Examples
mod FirstDeck
