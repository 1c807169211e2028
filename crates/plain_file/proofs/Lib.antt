-- Laws of plain files.
pub mod Parts
