-- What the proofs of the lengths share.
pub mod Rows
