-- Laws of points, whole numbers, boxes, edges along an axis and the order of edges, for the proofs here and for other crates.
pub mod Axis
pub mod Box
pub mod EdgeAtPoint
pub mod Median
pub mod Metric
pub mod Order
pub mod Range
pub mod Signed
pub mod Stored
pub mod Three
pub mod Whole
