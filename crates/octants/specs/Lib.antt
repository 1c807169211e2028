pub mod Nearest
pub mod Octant
pub mod OctantTable
