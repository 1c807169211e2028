pub mod Examples
pub mod PinLines
