-- What the proofs of numbers in base ten use.
pub mod Digits
