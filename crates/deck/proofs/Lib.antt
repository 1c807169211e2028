-- Laws of a deck and its calls and questions, for the proofs here and for other crates.
pub mod Calls
pub mod Form
pub mod Questions
pub mod Session
