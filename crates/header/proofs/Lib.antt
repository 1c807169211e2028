-- What the proofs of the checks of the header share.
pub mod Checks
