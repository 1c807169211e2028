-- Laws of keys.
pub mod All
pub mod Parts
