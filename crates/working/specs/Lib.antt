pub mod Held
pub mod InOrder
pub mod WorkingDeck
