pub mod Columns
pub mod Demands
pub mod KindLengths
pub mod KindsFollow
pub mod Method
mod Replies
pub mod Sessions
pub mod Tails
pub mod ThreePins
