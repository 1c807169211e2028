pub mod Round
pub mod Run
pub mod Search
