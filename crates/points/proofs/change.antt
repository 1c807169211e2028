-- Laws of points that join and leave.
pub mod Joins
