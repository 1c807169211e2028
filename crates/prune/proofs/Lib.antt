-- The sweep.
pub mod Sweep
pub mod Weak
