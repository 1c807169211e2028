-- What the functions of the module `kinds` rest on.
pub mod Front
