-- What the functions of the module `deck` rest on.
pub mod Following
