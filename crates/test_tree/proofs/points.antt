-- What the proofs of the checks of points share.
pub mod Rising
