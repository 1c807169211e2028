-- What the program prints.
pub mod Planned
