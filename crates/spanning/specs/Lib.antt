pub mod Bottleneck
pub mod Graph
pub mod Kruskal
