-- What the proof of the section of edges cites.
pub mod Bytes
