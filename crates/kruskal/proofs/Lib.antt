-- Laws of the functions of Kruskal's pass.
pub mod Fill
pub mod Labels
pub mod Pass
