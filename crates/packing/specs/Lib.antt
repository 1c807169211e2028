pub mod Claim
pub mod Examples
pub mod Held
pub mod Packing
pub mod Printed
