pub mod Examples
pub mod Template
