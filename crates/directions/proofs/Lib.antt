-- What the proofs of directions use, and the examples.
pub mod Examples
pub mod Octant
