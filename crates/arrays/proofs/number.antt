-- Laws of numbers in bytes.
pub mod Bytes
