pub mod Arguments
pub mod Names
pub mod Tests
