-- What the proofs of a line's answer use.
pub mod Texts
pub mod Written
