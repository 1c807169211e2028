-- Check 11.
pub mod Parts
