-- Laws of the lines.
pub mod Examples
pub mod PinLines
