pub mod Answer
pub mod ReadWorking
pub mod Reading
pub mod RoundTrip
pub mod Writing
