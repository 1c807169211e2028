-- What the proofs of the arguments of a call use.
pub mod Numbers
