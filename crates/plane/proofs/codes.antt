-- What the proofs of the codes' functions and of their callers share.
pub mod Points
pub mod Sets
