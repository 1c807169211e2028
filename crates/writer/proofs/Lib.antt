-- The file of a deck in working form.
pub mod Parts
pub mod Runs
