-- Laws of items put over a part of an array.
pub mod Lines
pub mod Parts
