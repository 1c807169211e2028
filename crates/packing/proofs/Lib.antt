-- Laws of a text of coordinates.
pub mod Addable
pub mod AnyOrder
pub mod Claim
pub mod Examples
pub mod SamePins
pub mod Steps
