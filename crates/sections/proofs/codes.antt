-- What the proofs of the sections of points and of their callers share.
pub mod InFront
pub mod Placed
