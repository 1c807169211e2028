-- Laws of octants and of the nearest point in one, for the proofs here and for other crates.
pub mod Between
pub mod Nearest
pub mod OctantTable
pub mod OneOctant
pub mod Read
pub mod SameOctant
pub mod Sector
