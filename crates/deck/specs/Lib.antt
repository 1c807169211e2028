pub mod Calls
pub mod Check
pub mod Form
pub mod Questions
pub mod Session
pub mod SessionDeck
