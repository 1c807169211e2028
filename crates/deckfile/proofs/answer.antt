-- What the entries of other crates share: laws on what they answer.
pub mod Entry
