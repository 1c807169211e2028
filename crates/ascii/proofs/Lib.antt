pub mod Decimals
pub mod Room
pub mod Signs
