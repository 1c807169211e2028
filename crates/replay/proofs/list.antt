-- What the functions of the module `list` rest on: the signed number of 32 bits, and calls made one after the other.
mod Calls
mod Signed
