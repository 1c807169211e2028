-- What the proofs of `row_gaps` and `locate` use.
mod Location
