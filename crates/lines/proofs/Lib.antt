-- Laws of lines.
pub mod Input
pub mod Taking
