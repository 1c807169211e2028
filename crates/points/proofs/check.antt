-- Laws of the tests on points.
pub mod Tests
