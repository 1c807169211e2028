-- What the proofs of `search_all`, `greatest_in_column` and `best` use, and those of the rounds and of one column.
pub mod Candidates
pub mod First
