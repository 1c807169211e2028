-- Checks 6 and 15.
pub mod KindsCheck
pub mod LastCheck
