pub mod Examples
pub mod Text
