-- What the proofs of the search use.
pub mod Scan
mod Steps
