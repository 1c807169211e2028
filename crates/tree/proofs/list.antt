-- Laws of the functions on lists of keys.
pub mod Degrees
pub mod Ends
pub mod Sum
