pub mod Examples
pub mod Filling
pub mod Items
