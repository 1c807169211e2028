-- What the proofs of hexadecimal digits use.
pub mod Bytes
pub mod Pairs
