pub mod Column
pub mod Found
pub mod Table
