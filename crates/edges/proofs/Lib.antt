-- The edges of a working form.
pub mod Numbers
