-- What the proofs of `relax_rows`, `relax_point` and `nearest` use.
pub mod Relaxation
pub mod Sides
