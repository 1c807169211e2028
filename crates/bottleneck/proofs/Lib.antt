pub mod FirstKeys
pub mod HeaviestEdge
pub mod Rows
pub mod TablePass
