pub mod Held
pub mod InOrder
