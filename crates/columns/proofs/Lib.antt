-- The claims on columns, their rows, and what the proofs of the functions use.
pub mod InColumn
pub mod ByColumns
pub mod Claims
pub mod Table
mod Rows
mod OfWorking
mod Found
