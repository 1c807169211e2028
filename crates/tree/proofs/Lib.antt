pub mod Lengths
pub mod Numbers
pub mod Size
pub mod Sorted
pub mod Total
pub mod Taken
