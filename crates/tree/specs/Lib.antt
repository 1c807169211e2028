pub mod Build
pub mod Ends
