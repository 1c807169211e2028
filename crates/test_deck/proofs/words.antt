-- Laws of the places of a deck in the words.
pub mod Places
